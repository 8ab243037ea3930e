-- The bytes of a certificate are a text.
use Rattle.std.proofs.Common.{ℕ, ◌<◌, List}
use Rattle.std.specs.Prelude.{All}
use Rattle.std.specs.Str.{IsUtf8}
use Rattle.std.proofs.lemmas.Str.{IsUtf8-from_ascii}
use Rattle.std.proofs.lemmas.Str.Ascii.{IsAscii-from_all}

pub ascii_utf8 : (bytes : List ℕ) → All (λ byte. byte < 128) bytes → IsUtf8 bytes
ascii_utf8 bytes all = IsUtf8-from_ascii bytes (IsAscii-from_all bytes all)
