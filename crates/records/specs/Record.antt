-- Records (document 01, "Requests"): the request that a record's bytes say, from the version byte on, or the offset of the first byte that could not
-- be accepted. A record good up to its cut gives its length; bytes left over give the first of them. Assumes nothing.
use Rattle.std.specs.Prelude.{ℕ, cond, List, eqb, ltb, length}
use Rattle.std.proofs.Math.Option.{Option}
use Rattle.values.specs.Value.{Value}
use Rattle.forms.specs.Read.{Read, got, broken, name_at, value_at}
use Rattle.rules.specs.declared.profile.Profile.{Profile}
use Rattle.rules.specs.State.{Column}
use Rattle.rules.specs.Layout.{bit}
use Rattle.rules.specs.Request.{Pair, Request, Create, Drop, Insert, Update, Delete, Get, Lookup, Scan, Names, Open, Keep, Back}
use Rattle.records.specs.Reading.{and_then, times, flagged, byte_at, byte_from}

module _ (s : List ℕ) where
  -- a count byte and as many values
  unfoldable pub values_at : ℕ → Read (List Value)
  values_at at = and_then (byte_at s at) (λ n b. times (value_at s) n b)

  -- name, kind 1 to 4, flags up to 31, default if flagged, reference name if flagged
  unfoldable pub column_at : ℕ → Read Column
  column_at at =
      and_then (name_at s at)
      (λ name a.
      and_then (byte_from 1 4 s a)
      (λ kind b.
      and_then (byte_from 0 31 s b)
      (λ f c.
      and_then (flagged (bit 2 f) (value_at s) c)
      (λ default d.
      and_then (flagged (bit 16 f) (name_at s) d)
      (λ reference e.
      got
      (record {
        name = name;
        kind = kind;
        nullable = bit 1 f;
        default = default;
        unique = bit 4 f;
        index = bit 8 f;
        reference = reference;
      })
      e)))))

  -- 1 create: name, key column, column count, columns; more columns than a table may have are broken
  unfoldable pub create_at : Profile → ℕ → Read Request
  create_at p at =
      and_then (name_at s at)
      (λ name a.
      and_then (byte_at s a)
      (λ key b.
      and_then (byte_from 0 p.columns s b)
      (λ n c.
      and_then (times column_at n c)
      (λ cs d. got (Create (record { name = name; key = key; columns = cs })) d))))

  -- 2 drop: name, if-exists byte
  unfoldable pub drop_at : ℕ → Read Request
  drop_at at = and_then (name_at s at) (λ name a. and_then (byte_from 0 1 s a) (λ x b. got (Drop name (eqb x 1)) b))

  -- a count byte and as many column numbers
  unfoldable pub columns_at : ℕ → Read (List ℕ)
  columns_at at = and_then (byte_at s at) (λ n a. times (byte_at s) n a)

  -- a map byte: 0; or 1, a count, and the table column of each value
  unfoldable pub map_at : ℕ → Read (Option (List ℕ))
  map_at at = and_then (byte_from 0 1 s at) (λ x a. flagged (eqb x 1) columns_at a)

  -- 3 insert: table, map, row count, rows
  unfoldable pub insert_at : ℕ → Read Request
  insert_at at =
      and_then (name_at s at)
      (λ name a.
      and_then (map_at a)
      (λ m b.
      and_then (byte_at s b)
      (λ n c. and_then (times values_at n c) (λ rows d. got (Insert name m rows) d))))

  -- an old key and a row
  unfoldable pub pair_at : ℕ → Read Pair
  pair_at at = and_then (value_at s at) (λ old a. and_then (values_at a) (λ row b. got (record { old = old; row = row }) b))

  -- 4 update: table, pair count, pairs
  unfoldable pub update_at : ℕ → Read Request
  update_at at =
      and_then (name_at s at) (λ name a. and_then (byte_at s a) (λ n b. and_then (times pair_at n b) (λ qs c. got (Update name qs) c)))

  -- a table and keys
  unfoldable pub keys_at : (List ℕ → List Value → Request) → ℕ → Read Request
  keys_at make at = and_then (name_at s at) (λ name a. and_then (values_at a) (λ ks b. got (make name ks) b))

  -- 7 lookup: table, column number, value count, values
  unfoldable pub lookup_at : ℕ → Read Request
  lookup_at at =
      and_then (name_at s at) (λ name a. and_then (byte_at s a) (λ i b. and_then (values_at b) (λ vs c. got (Lookup name i vs) c)))

  -- 8 scan: table
  unfoldable pub scan_at : ℕ → Read Request
  scan_at at = and_then (name_at s at) (λ name a. got (Scan name) a)

  -- the operands of operation k; an unknown operation is broken at its byte
  unfoldable pub operands_at : Profile → ℕ → ℕ → Read Request
  operands_at p k at =
      cond (eqb k 1) (create_at p at)
      (cond (eqb k 2) (drop_at at)
      (cond (eqb k 3) (insert_at at)
      (cond (eqb k 4) (update_at at)
      (cond (eqb k 5) (keys_at Delete at)
      (cond (eqb k 6) (keys_at Get at)
      (cond (eqb k 7) (lookup_at at)
      (cond (eqb k 8) (scan_at at)
      (cond (eqb k 9) (got Names at)
      (cond (eqb k 12) (got Open at)
      (cond (eqb k 13) (got Keep at)
      (cond (eqb k 14) (got Back at) (broken 1))))))))))))

  -- version byte 1, operation, operands, and nothing left over
  unfoldable pub request_of : Profile → Read Request
  request_of p =
      and_then (byte_from 1 1 s 0)
      (λ v a.
      and_then (byte_at s a)
      (λ k b. and_then (operands_at p k b) (λ q end. cond (ltb end (length s)) (broken end) (got q end))))
