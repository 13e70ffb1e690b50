-- The parts of a session's calls as the code tells them: a header's two bytes, the walk and the cursor of a record.
use Rattle.std.specs.Prelude.{ℕ, ◌+◌, ◌*◌, ◌/◌, ◌%◌, Bool, List, length, leb}
use Rattle.rules.specs.declared.Session.{Session}
use Rattle.symbols.specs.declared.Cursor.{Cursor}
use Rattle.rules.specs.Bodies.{form_of, dim_of}
use Rattle.rules.specs.Map.{by_dart, dim_fits, size}
use Rattle.rules.specs.Reading.{Reading, begun}

-- a reading from both header bytes on: 4 bits form and N, 12 bits n-1
unfoldable pub headed : ℕ → ℕ → List Bool → List ℕ → Reading
headed x y bits t =
    let N = dim_of (x / 16) in
    let n = x % 16 * 256 + y + 1 in
    begun (form_of (x / 16)) by_dart (dim_fits N) (leb (size N n) (length t)) N n bits t

-- the bits that wait in a record, then a page from its first byte
abbrev pub cursor_of : Session → Cursor
cursor_of s = record { waiting = s.waiting; value = s.value; at = 0; bit = 0 }
