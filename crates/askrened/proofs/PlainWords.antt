-- A word that does not begin with a dash is no flag.
use Rattle.std.proofs.Common.{◌≡◌, ◌≢◌, ◌==◌, ℕ, List, ◌∷◌, None, false, refl, codes, rules}
use Rattle.std.specs.Prelude.{bytes_eq}
use Rattle.clap.specs.Lexer.{long_of, short_of}

pub no_dash : (x : ℕ) → x ≢ 45 → (x == 45) ≡ false
no_dash x other = search (rules, other)

pub no_long : (x : ℕ) (rest : List ℕ) → (x == 45) ≡ false → long_of (x ∷ rest) ≡ None
no_long x rest e = rw e refl

pub no_short : (x : ℕ) (rest : List ℕ) → (x == 45) ≡ false → short_of (x ∷ rest) ≡ None
no_short x rest e = rw e refl

pub no_dashes : (x : ℕ) (rest : List ℕ) → (x == 45) ≡ false → bytes_eq (x ∷ rest) (codes "--") ≡ false
no_dashes x rest e = rw e refl
