-- The column and the table that a create says. Assumes nothing.
use Rattle.std.specs.Prelude.{[]}
use Rattle.forms.specs.Read.{Read}
use Rattle.rules.specs.State.{Column, Table}
use Rattle.rules.specs.Request.{Request, Create, Drop, Insert, Update, Delete, Get, Lookup, Scan, Names, Open, Keep, Back}
use Rattle.laid.specs.Row.{no_column}
use Rattle.mapping.specs.Got.{got_or}

abbrev pub no_table : Table
no_table = record { name = []; key = 0; columns = [] }

abbrev pub column_of : Read Column → Column
column_of r = got_or no_column r

abbrev pub schema_of : Request → Table
schema_of (Create t) = t
schema_of (Drop n x) = no_table
schema_of (Insert n m rows) = no_table
schema_of (Update n qs) = no_table
schema_of (Delete n ks) = no_table
schema_of (Get n ks) = no_table
schema_of (Lookup n i vs) = no_table
schema_of (Scan n) = no_table
schema_of Names = no_table
schema_of Open = no_table
schema_of Keep = no_table
schema_of Back = no_table

abbrev pub table_of : Read Request → Table
table_of r = schema_of (got_or Names r)
