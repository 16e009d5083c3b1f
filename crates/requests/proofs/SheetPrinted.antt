-- The curator's sheet printed: over a fresh store and a closed journal its bytes give document 01's lines, byte for byte. Assumes nothing.
use Prim.Native.Nat.{ℕ, ◌+◌, ◌≤◌}
use native.Mathlib.Omega.{arith}
use mathlib.Core.Path.{◌≡◌, refl, ap, ◌∙◌, subst}
use mathlib.Core.Bool.{true}
use mathlib.Core.List.{List}
use mathlib.Core.Option.{none}
use lib.ListN.{length, take}
use Rattle.values.specs.Bytes.{num}
use Rattle.forms.specs.Read.{name_at, boolean_at, eight_at, content_at, value_at}
use Rattle.forms.specs.Print.{printed}
use Rattle.rules.specs.Profile.{full}
use Rattle.rules.specs.State.{empty}
use Rattle.rules.specs.Journal.{Books, batch_of, fresh}
use Rattle.rules.specs.Layout.{image, places_of}
use Rattle.rules.specs.Pages.{journal_most, journal_image, books_of, sound_books}
use Rattle.rules.proofs.Cases.{rules}
use Rattle.rules.proofs.Valid.{valid-laid, empty-valid}
use Rattle.rules.proofs.Whole.{places-image}
use Rattle.rules.proofs.Demand.{fresh-right}
use Rattle.rules.proofs.Widths.{full-known, full-indexed}
use Rattle.journal.specs.Books.{BytesOf}
use Rattle.journal.proofs.Booking.{Fitting, books-are, booked-of, sound-booked}
use Rattle.records.specs.Reading.{and_then, times, flagged, byte_at, byte_from}
use Rattle.records.specs.Record.{values_at, column_at, columns_at, map_at, pair_at}
use Rattle.records.specs.Record.{create_at, drop_at, insert_at, update_at, keys_at, lookup_at, scan_at, operands_at, request_of}
use Rattle.records.specs.Frame.{framed}
use Rattle.operations.specs.Told.{outcome_of}
use Rattle.requests.specs.declared.entry.Halt.TheVariants.{Stopped}
use Rattle.requests.specs.declared.entry.Ran.{Ran}
use Rattle.requests.specs.Lines.{spaced, row_line, row_lines, answer_line, row_most}
use Rattle.requests.specs.Places.{text_from}
use Rattle.requests.specs.Stream.{some_records, records_in, text_of, Runs, Many}
use Rattle.requests.specs.CuratorSheet.{sheet_bytes, sheet_text}
use Rattle.requests.proofs.AllAnswered.{all-answered}
use Rattle.requests.proofs.Lending.{full-paging}

-- one name that opens reading, and one that opens printing
unfoldable fields : ℕ
unfolding num name_at boolean_at eight_at content_at value_at and_then times flagged byte_at byte_from values_at column_at columns_at map_at pair_at
fields = 0

unfoldable read : ℕ
unfolding fields create_at drop_at insert_at update_at keys_at lookup_at scan_at operands_at request_of framed some_records records_in
read = 0

unfoldable print : ℕ
unfolding printed spaced row_line row_lines answer_line text_from text_of outcome_of
print = 0

pub sheet-printed : (J : ℕ) → text_of full 70 (fresh J) (records_in full sheet_bytes true) 0 ≡ sheet_text
unfolding rules read print sheet_bytes
sheet-printed J = refl

-- ---- a fresh store and a journal of J places, all zero, are sound and stand for the fresh books

module _ (J : ℕ) (least : 1 ≤ J) (most : J ≤ journal_most) where
  abbrev store : List ℕ
  store = image full 70 empty

  abbrev journal : List ℕ
  journal = journal_image full (batch_of J none)

  fits : Fitting full 70
  fits = record { paging = full-paging; indexed = full-indexed; places = omega arith }

  bytes : BytesOf full 70 (fresh J) store journal
  bytes = record { store = refl; journal = refl }

  fresh-sound : sound_books full store journal ≡ true
  fresh-sound = sound-booked (booked-of (fresh-right full 70 J) fits (omega arith) least most bytes)

  fresh-are : books_of full 70 store journal ≡ fresh J
  fresh-are = books-are (fresh-right full 70 J) fits (omega arith) least most bytes

  -- so the entry writes them, where the output has room
  pub sheet-run : (s₁ j₁ out done : List ℕ) (r : Ran) → Many full sheet_bytes true 0 store journal s₁ j₁ out done r
      → length sheet_text + row_most ≤ length out
      → (r.halt ≡ Stopped) × (take r.written done ≡ sheet_text)
  sheet-run s₁ j₁ out done r m h =
      let n : places_of full store ≡ 70 = places-image full full-known full-indexed 70 (omega arith) empty (valid-laid (empty-valid full 70)) in
      let t = ap (λ (x : Books). text_of full 70 x (records_in full sheet_bytes true) 0) fresh-are ∙ sheet-printed J in
      let x = subst (λ (k : ℕ). Runs full k sheet_bytes true 0 store journal s₁ j₁ out done r) n (m.runs fresh-sound) in
      let w = all-answered full 70 sheet_bytes true 0 store journal s₁ j₁ out done r x (omega (arith, h, ap length t)) in
      (w.1, w.2 ∙ t)
