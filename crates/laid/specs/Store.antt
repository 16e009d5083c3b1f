-- What is asked of a lent buffer, and what is promised of it afterwards. Assumes nothing.
use Rattle.std.specs.Prelude.{◌≡◌, true, ℕ, ◌*◌, ◌≤◌, List, length}
use Rattle.values.specs.Cell.{cell_width}
use Rattle.areas.specs.Counted.{count_at}
use Rattle.rules.specs.declared.profile.Profile.{Profile}
use Rattle.rules.specs.Request.{Answer}
use Rattle.rules.specs.Profile.{places_most, store_length, Known, Indexed}
use Rattle.rules.specs.Layout.{tables_count, rows_count, entries_count, image, parse}
use Rattle.rules.specs.Request.{said}
use Rattle.rules.specs.Step.{Outcome, apply_all}
use Rattle.rules.specs.Sound.{laid, valid}

-- a profile whose cells are those that the code writes
pub record Coded (p : Profile) : Type 0 where
  pub known : Known p
  pub cells : p.cell ≡ cell_width

-- the right length, and counts within their areas, so that every record lies inside
pub record Inside (p : Profile) (R : ℕ) (s : List ℕ) : Type 0 where
  pub coded : Coded p
  pub places : R ≤ places_most
  pub long : length s ≡ store_length p R
  pub tables-le : count_at tables_count 1 s ≤ p.tables
  pub rows-le : count_at rows_count 2 s ≤ R
  pub entries-le : count_at entries_count 4 s ≤ p.entries * R

-- laid out, sound but for unique values and held references: what the changes of a row need and keep
pub record LaidStore (p : Profile) (R : ℕ) (s : List ℕ) : Type 0 where
  pub coded : Coded p
  pub indexed : Indexed p
  pub places : R ≤ places_most
  pub laid : laid p R (parse p R s) ≡ true
  pub bytes : s ≡ image p R (parse p R s)

-- a sound store with R row places
pub record Store (p : Profile) (R : ℕ) (s : List ℕ) : Type 0 where
  pub coded : Coded p
  pub indexed : Indexed p
  pub some : 1 ≤ R
  pub places : R ≤ places_most
  pub valid : valid p R (parse p R s) ≡ true
  pub bytes : s ≡ image p R (parse p R s)

-- the answer is the outcome's, and every byte afterwards is that of the state with the outcome's changes
pub record Stored (p : Profile) (R : ℕ) (o : Outcome) (before after : List ℕ) (a : Answer) : Type 0 where
  pub answer : said a ≡ o.reply
  pub bytes : after ≡ image p R (apply_all o.changes (parse p R before))
