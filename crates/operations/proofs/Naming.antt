-- The table that a request names, at the place where the code found it, and its record as it is lent. Assumes nothing.
use Prim.Native.Nat.{ℕ, ◌<◌}
use mathlib.Core.Path.{◌≡◌, sym, ◌∙◌}
use mathlib.Core.List.{List, []}
use mathlib.Core.Option.{some}
use lib.ListN.{length, get_or}
use Rattle.rules.specs.Layout.{lists, parse, read_table}
use Rattle.rules.specs.State.{Name, is_named, table_named}
use Rattle.rules.specs.declared.profile.Profile.{Profile}
use Rattle.laid.specs.Catalog.{TableBytes, place_of}
use Rattle.laid.specs.Row.{table_in}
use Rattle.laid.specs.Store.{Store}
use Rattle.checks.proofs.Fitting.{schema-within, rec-bytes, table_is}
use Rattle.laid.proofs.Finding.{place_found}
use Rattle.laid.proofs.RowFacts.{table-there, start-count}
use Rattle.laid.proofs.Stores.{laid-store}

module _ {p : Profile} {R : ℕ} {s : List ℕ} (b : Store p R s) (n : Name) {t : ℕ} (f : some t ≡ place_of (is_named n) (parse p R s).tables) where
  pub named-below : t < length (parse p R s).tables
  named-below = (place_found (is_named n) (parse p R s).tables t (sym f)).0

  pub named-its : table_named (parse p R s).tables n ≡ some (table_in p R s t)
  named-its = sym (place_found (is_named n) (parse p R s).tables t (sym f)).1 ∙ table-there p R s t named-below

  pub named-place : t < length (lists p R s).schemas
  named-place = schema-within p R s t (laid-store p R s b) named-below

  -- its record
  module _ {tab : List ℕ} (et : tab ≡ get_or (lists p R s).schemas t []) where
    pub named-bytes : TableBytes p tab
    named-bytes = rec-bytes p R s t (laid-store p R s b) named-below tab et

    pub named-is : table_in p R s t ≡ read_table p tab
    named-is = table_is p R s t (laid-store p R s b) named-below tab et

    pub named_count : get_or tab 26 0 ≡ length (table_in p R s t).columns
    named_count = start-count p R s (laid-store p R s b) t named-below tab et
