-- The curator's sheet (document 01) as bytes: its eleven requests as the program reads them, its thirteen lines. Assumes nothing.
use Rattle.std.specs.Prelude.{ℕ, List, []}
use Rattle.values.specs.Bytes.{be}
use Rattle.rules.specs.Ascii.{ascii}

-- each record's bytes as one number: length, version, operation, operands
unfoldable pub sheet_bytes : List ℕ
unfolding be
sheet_bytes =
    be 25 0x0017_01_01_04706c616e_00_02_026964_02_04_057368656574_04_03_00
    (be 30 0x001c_01_01_05706f696e74_00_02_026964_02_04_04706c616e_02_1b_00_04706c616e
    (be 24 0x0016_01_03_04706c616e_00_01_02_020000000000000007_040141
    (be 50 0x0030_01_03_05706f696e74_00_02_02_020000000000000001_020000000000000007_02_020000000000000002_020000000000000009
    (be 10 0x0008_01_08_05706f696e74
    (be 39 0x0025_01_04_05706f696e74_01_020000000000000001_02_020000000000000003_020000000000000008
    (be 10 0x0008_01_08_05706f696e74
    (be 22 0x0014_01_03_05706f696e74_00_01_01_020000000000000004
    (be 11 0x0009_01_05_04706c616e_01_00
    (be 10 0x0008_01_08_05706f696e74
    (be 19 0x0011_01_05_04706c616e_01_020000000000000007 []))))))))))

abbrev pub sheet_text : List ℕ
sheet_text = ascii "ok 0\nok 0\nok 1\nno 30 1 0\nrow 1 7\nok 1\nno 30 0 1\nok 0\nok 1\nno 32 0 0\nrow 4 NULL\nok 1\nok 1\n"
