-- A number names one refusal of the code. Assumes nothing.
use Prim.Native.Nat.{ℕ}
use mathlib.Core.Path.{◌≡◌, refl, sym, ◌∙◌, ap}
use mathlib.Core.List.{List, [], ◌∷◌}
use Rattle.values.specs.Basic.{nth, or_default}
use Rattle.rules.specs.declared.answer.Refusal as D
use Rattle.rules.specs.declared.answer.Refusal.TheVariants as V
use Rattle.rules.specs.Refusal.{number_of, refusal_of}

-- the code's refusals in the order of their numbers, the first one where none has the number
coded : List D.Refusal
coded =
    V.RecordBroken ∷ V.RecordBroken ∷ V.UnknownTable ∷ V.TableExists ∷ V.EmptyTableName ∷ V.NoColumns ∷ V.KeyColumnOutOfRange ∷
    V.EmptyColumnName ∷ V.KeyNullable ∷ V.KeyNotUnique ∷ V.KeyIndexed ∷ V.NullableWithoutDefault ∷ V.NullDefault ∷ V.DefaultKind ∷
    V.UniqueNotIndexed ∷ V.ReferenceNotIndexed ∷ V.UnknownTarget ∷ V.TargetKind ∷ V.ColumnTwice ∷ V.TablesFull ∷ V.TableReferenced ∷
    V.TooManyValues ∷ V.MapCount ∷ V.NoDefault ∷ V.MapColumn ∷ V.RowSize ∷ V.KeyUndefined ∷ V.KeyExists ∷ V.WrongKind ∷ V.NullNotAllowed ∷
    V.TargetMissing ∷ V.ValueExists ∷ V.RowReferenced ∷ V.RowsFull ∷ V.RowAbsent ∷ V.KeysNotRising ∷ V.RecordBroken ∷ V.NotIndexed ∷
    V.StoreUnsound ∷ V.RecordBroken ∷ V.RecordBroken ∷ V.RecordBroken ∷ V.RecordBroken ∷ V.JournalFull ∷ V.InsideBatch ∷ V.BatchOutOfTurn ∷ []

coded_with : ℕ → D.Refusal
coded_with n = or_default (nth coded n) V.RecordBroken

coded-number : (k : D.Refusal) → coded_with (number_of (refusal_of k)) ≡ k
unfolding coded_with coded
coded-number V.RecordBroken = refl
coded-number V.UnknownTable = refl
coded-number V.TableExists = refl
coded-number V.EmptyTableName = refl
coded-number V.NoColumns = refl
coded-number V.KeyColumnOutOfRange = refl
coded-number V.EmptyColumnName = refl
coded-number V.KeyNullable = refl
coded-number V.KeyNotUnique = refl
coded-number V.KeyIndexed = refl
coded-number V.NullableWithoutDefault = refl
coded-number V.NullDefault = refl
coded-number V.DefaultKind = refl
coded-number V.UniqueNotIndexed = refl
coded-number V.ReferenceNotIndexed = refl
coded-number V.UnknownTarget = refl
coded-number V.TargetKind = refl
coded-number V.ColumnTwice = refl
coded-number V.TablesFull = refl
coded-number V.TableReferenced = refl
coded-number V.TooManyValues = refl
coded-number V.MapCount = refl
coded-number V.NoDefault = refl
coded-number V.MapColumn = refl
coded-number V.RowSize = refl
coded-number V.KeyUndefined = refl
coded-number V.KeyExists = refl
coded-number V.WrongKind = refl
coded-number V.NullNotAllowed = refl
coded-number V.TargetMissing = refl
coded-number V.ValueExists = refl
coded-number V.RowReferenced = refl
coded-number V.RowsFull = refl
coded-number V.RowAbsent = refl
coded-number V.KeysNotRising = refl
coded-number V.NotIndexed = refl
coded-number V.StoreUnsound = refl
coded-number V.JournalFull = refl
coded-number V.InsideBatch = refl
coded-number V.BatchOutOfTurn = refl

pub coded-injective : (j k : D.Refusal) → number_of (refusal_of j) ≡ number_of (refusal_of k) → j ≡ k
coded-injective j k e = sym (coded-number j) ∙ ap coded_with e ∙ coded-number k
