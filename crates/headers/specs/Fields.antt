-- SCOPE 5.1: the field at the front of some bytes.
use Rattle.std.specs.Prelude.{ℕ, ◌≡◌, List, Option, Some, None, length, take, drop}
use Rattle.headers.specs.Headers.{header, header_of}
use Rattle.headers.specs.declared.Field.{Field}

-- its tag is that of the header, and its body is the bytes after that, as many as the header says; there is none where there is no such
-- header (SCOPE 5.1)
abbrev pub FrontOf : List ℕ → Option Field → Type 0
FrontOf input None = header_of input ≡ None
FrontOf input (Some f) = (header_of input ≡ Some (header f.tag (length f.body.now))) × (f.body.now ≡ take (length f.body.now) (drop 3 input))
