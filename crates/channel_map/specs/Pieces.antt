-- The entries of a long text, which are read in pieces; these words serve private clauses only.
use Rattle.std.specs.Prelude.{◌≡◌, ◌≤◌, ℕ, List, [], ◌∷◌, ◌++◌, length, true, Option}
use Rattle.json.specs.Token.{Token}
use Rattle.json.specs.Json.{parse_map, items, value}
use Rattle.serde_json.specs.Read.{of_items, converted}
use Rattle.json_pass.specs.Pieces.{are_good}
use Rattle.channel_map.specs.Channels.{Gathered, gathered_of}
use Rattle.channel_map.specs.Found.{joined}

-- a text up to a closing brace that a comma follows, and the text after that comma
pub record IsCut (text piece rest : List ℕ) : Type 0 where
  pub front : List ℕ
  pub ends : piece ≡ front ++ 125 ∷ []
  pub whole : text ≡ front ++ 125 ∷ 44 ∷ rest

-- what is gathered where these tokens follow what has been gathered; the number bounds the turns
abbrev pub entries_from : ℕ → Gathered → ℕ → List Token → Option (Gathered × List Token)
entries_from depth found n ts = parse_map (λ ds. joined found (gathered_of ds)) (converted of_items (items (value depth) n ts))

-- whatever follows these tokens, it is read after what has been gathered of them
pub record GoesOn (depth : ℕ) (old : Gathered) (ts : List Token) (new : Gathered) : Type 0 where
  pub good : are_good ts ≡ true
  pub on : (n : ℕ) (more : List Token) → length (ts ++ more) ≤ n → (m : ℕ) × (length more ≤ m) × (entries_from depth old n (ts ++ more) ≡ entries_from depth new m more)

-- an open brace comes first
abbrev pub Opens : List Token → Type 0
Opens ts = (more : List Token) × (ts ≡ Token.begin_object ∷ more)
