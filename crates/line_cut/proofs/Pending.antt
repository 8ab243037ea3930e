-- The bytes that are still to be cut, through the steps of a call.
use Rattle.std.proofs.Common.{◌≡◌, ℕ, List, ◌++◌, Bool, true, false, Option, Some, None, refl, sym, ap, ◌∙◌, append_assoc, nat_eq, if◌then◌else◌}
use Rattle.std.proofs.lemmas.Bool.{eqb-true}
use Rattle.std.proofs.lemmas.List.{append-nil}
use Rattle.std.specs.Io.KnownBytes.{Keeps, Consumes, IsAtEnd, prepend_known}
use Rattle.line_cut.specs.Buffered.{Buffered, pending, StaysKnown}

-- a read moved bytes from the source to the buffer
pub kept_by_read : (before after : Option (List ℕ)) (rest more now : List ℕ) → Consumes before after more → now ≡ rest ++ more
    → Keeps (prepend_known rest before) (prepend_known now after)
kept_by_read None after rest more now taken is = tt
kept_by_read (Some left) None rest more now taken is = absurd taken
kept_by_read (Some left) (Some others) rest more now taken is = rw (taken, is, append_assoc) refl

-- a read that failed moved no bytes
pub kept_by_fault : (before after : Option (List ℕ)) (rest now : List ℕ) → Keeps before after → now ≡ rest
    → Keeps (prepend_known rest before) (prepend_known now after)
kept_by_fault None after rest now same is = tt
kept_by_fault (Some left) None rest now same is = absurd same
kept_by_fault (Some left) (Some others) rest now same is = rw (same, is) refl

ended_keeps : (before after : Option (List ℕ)) (rest : List ℕ) → Keeps before (prepend_known rest after) → IsAtEnd after → Keeps before (Some rest)
ended_keeps None after rest same none = tt
ended_keeps (Some bytes) None rest same none = absurd same
ended_keeps (Some bytes) (Some left) rest same none = sym (append-nil rest) ∙ ap (λ (bs : List ℕ). rest ++ bs) (sym none) ∙ same

filled_test : (ended : Bool) (before after : Option (List ℕ)) (rest : List ℕ) (n : ℕ) → nat_eq n 0 ≡ ended → Keeps before (prepend_known rest after)
    → (n ≡ 0 → IsAtEnd after) → Keeps before (if ended then Some rest else prepend_known rest after)
filled_test true before after rest n is same none = ended_keeps before after rest same (none (eqb-true _ _ is))
filled_test false before after rest n is same none = same

-- a read of a source that had not ended keeps the pending bytes, also at the end
pub filled : (old new : Buffered) (before after : Option (List ℕ)) (n : ℕ) → old.ended ≡ false → new.ended ≡ nat_eq n 0
    → Keeps (prepend_known old.rest before) (prepend_known new.rest after) → (n ≡ 0 → IsAtEnd after) → Keeps (pending old before) (pending new after)
unfolding pending
filled old new before after n going is same none = rw going (filled_test new.ended _ after new.rest n (sym is) same none)

pub filled_not : (old new : Buffered) (before after : Option (List ℕ)) → old.ended ≡ false → new.ended ≡ false
    → Keeps (prepend_known old.rest before) (prepend_known new.rest after) → Keeps (pending old before) (pending new after)
unfolding pending
filled_not old new before after going still same = rw (going, still) same

-- a source stays known through a read, and through several
pub known_by_read : (before after : Option (List ℕ)) (rest now : List ℕ) → Keeps (prepend_known rest before) (prepend_known now after) → StaysKnown before after
known_by_read None after rest now same = tt
known_by_read (Some left) None rest now same = absurd same
known_by_read (Some left) (Some others) rest now same = tt

pub known_always : (left : Option (List ℕ)) → StaysKnown left left
known_always None = tt
known_always (Some bytes) = tt

pub known_on : (before mid after : Option (List ℕ)) → StaysKnown before mid → StaysKnown mid after → StaysKnown before after
known_on None mid after a b = tt
known_on (Some bytes) None after a b = absurd a
known_on (Some bytes) (Some others) None a b = absurd b
known_on (Some bytes) (Some others) (Some rest) a b = tt
