-- The column is put together from what is read of its bytes.
use Rattle.std.proofs.Common.{◌∙◌, ap, sym}
use Rattle.values.specs.Cell.{read_name, read_value}
use Rattle.laid.proofs.Columns.{rest, parts-read}
use Rattle.laid.proofs.catalog.read_column.Goals as goal

pub returns : goal.returns
returns c =
    let x = c.column_record-col.result.now in
    record {
      is =
          rw (c.flag.ensures, c.flag-2.ensures, c.flag-3.ensures, c.default_in.ensures.0, c.reference_in.ensures.0)
          (parts-read c.args.p x c.requires.0.coded.cells c.read_name.ensures.0 (ap read_value (sym (rest 27 x))) (ap read_name (sym (rest 53 x))))
          ∙ c.column_record-col.ensures.read;
      proper = record { name = c.read_name.ensures.1; default = c.default_in.ensures.1; reference = c.reference_in.ensures.1 };
    }
