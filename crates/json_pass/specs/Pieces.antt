-- A text in pieces; it serves private clauses only.
use Rattle.std.specs.Prelude.{ℕ, List, [], ◌∷◌, Bool, true, ◌&&◌}
use Rattle.json.specs.Token.{Token}
use Rattle.json.specs.Align.{is_good}
use Rattle.json.specs.Lex.{between, lex, after_comma, punctuate}

-- no token is bad
abbrev pub are_good : List Token → Bool
are_good [] = true
are_good (t ∷ ts) = is_good t && are_good ts

-- the tokens of a text that comes after a comma
abbrev pub tokens_after_comma : List ℕ → List Token
tokens_after_comma text = punctuate after_comma (lex between text)
