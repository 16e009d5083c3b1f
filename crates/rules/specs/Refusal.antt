-- The kinds of refusal and document 01's number of each ("Numbers of refusal"). Assumes nothing.
use Rattle.std.specs.Prelude.{ℕ}
use Rattle.rules.specs.declared.answer.Refusal as D
use Rattle.rules.specs.declared.answer.Refusal.TheVariants as V

-- none: the request is carried out
pub data Refusal : Type 0 where
  Accepted : Refusal
  RecordBroken UnknownTable TableExists EmptyTableName NoColumns KeyColumnOutOfRange EmptyColumnName KeyNullable KeyNotUnique KeyIndexed : Refusal
  NullableWithoutDefault NullDefault DefaultKind UniqueNotIndexed ReferenceNotIndexed UnknownTarget TargetKind ColumnTwice TablesFull : Refusal
  TableReferenced TooManyValues MapCount NoDefault MapColumn RowSize KeyUndefined KeyExists WrongKind NullNotAllowed TargetMissing : Refusal
  ValueExists RowReferenced RowsFull RowAbsent KeysNotRising NotIndexed StoreUnsound JournalFull InsideBatch BatchOutOfTurn : Refusal

abbrev pub number_of : Refusal → ℕ
number_of Accepted = 0
number_of RecordBroken = 1
number_of UnknownTable = 2
number_of TableExists = 3
number_of EmptyTableName = 4
number_of NoColumns = 5
number_of KeyColumnOutOfRange = 6
number_of EmptyColumnName = 7
number_of KeyNullable = 8
number_of KeyNotUnique = 9
number_of KeyIndexed = 10
number_of NullableWithoutDefault = 11
number_of NullDefault = 12
number_of DefaultKind = 13
number_of UniqueNotIndexed = 14
number_of ReferenceNotIndexed = 15
number_of UnknownTarget = 16
number_of TargetKind = 17
number_of ColumnTwice = 18
number_of TablesFull = 19
number_of TableReferenced = 20
number_of TooManyValues = 21
number_of MapCount = 22
number_of NoDefault = 23
number_of MapColumn = 24
number_of RowSize = 25
number_of KeyUndefined = 26
number_of KeyExists = 27
number_of WrongKind = 28
number_of NullNotAllowed = 29
number_of TargetMissing = 30
number_of ValueExists = 31
number_of RowReferenced = 32
number_of RowsFull = 33
number_of RowAbsent = 34
number_of KeysNotRising = 35
number_of NotIndexed = 37
number_of StoreUnsound = 38
number_of JournalFull = 43
number_of InsideBatch = 44
number_of BatchOutOfTurn = 45

-- what a refusal of the code is
abbrev pub refusal_of : D.Refusal → Refusal
refusal_of V.RecordBroken = RecordBroken
refusal_of V.UnknownTable = UnknownTable
refusal_of V.TableExists = TableExists
refusal_of V.EmptyTableName = EmptyTableName
refusal_of V.NoColumns = NoColumns
refusal_of V.KeyColumnOutOfRange = KeyColumnOutOfRange
refusal_of V.EmptyColumnName = EmptyColumnName
refusal_of V.KeyNullable = KeyNullable
refusal_of V.KeyNotUnique = KeyNotUnique
refusal_of V.KeyIndexed = KeyIndexed
refusal_of V.NullableWithoutDefault = NullableWithoutDefault
refusal_of V.NullDefault = NullDefault
refusal_of V.DefaultKind = DefaultKind
refusal_of V.UniqueNotIndexed = UniqueNotIndexed
refusal_of V.ReferenceNotIndexed = ReferenceNotIndexed
refusal_of V.UnknownTarget = UnknownTarget
refusal_of V.TargetKind = TargetKind
refusal_of V.ColumnTwice = ColumnTwice
refusal_of V.TablesFull = TablesFull
refusal_of V.TableReferenced = TableReferenced
refusal_of V.TooManyValues = TooManyValues
refusal_of V.MapCount = MapCount
refusal_of V.NoDefault = NoDefault
refusal_of V.MapColumn = MapColumn
refusal_of V.RowSize = RowSize
refusal_of V.KeyUndefined = KeyUndefined
refusal_of V.KeyExists = KeyExists
refusal_of V.WrongKind = WrongKind
refusal_of V.NullNotAllowed = NullNotAllowed
refusal_of V.TargetMissing = TargetMissing
refusal_of V.ValueExists = ValueExists
refusal_of V.RowReferenced = RowReferenced
refusal_of V.RowsFull = RowsFull
refusal_of V.RowAbsent = RowAbsent
refusal_of V.KeysNotRising = KeysNotRising
refusal_of V.NotIndexed = NotIndexed
refusal_of V.StoreUnsound = StoreUnsound
refusal_of V.JournalFull = JournalFull
refusal_of V.InsideBatch = InsideBatch
refusal_of V.BatchOutOfTurn = BatchOutOfTurn
