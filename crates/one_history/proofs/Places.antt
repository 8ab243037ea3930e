-- The entry at a place keeps its place and its reply as the history grows.
use Rattle.std.proofs.Common.{◌≡◌, ℕ, List, [], ◌∷◌, ◌++◌, length, Some, refl, suc, zero, ◌<◌, slice_get, arith}
use Rattle.one_history.specs.declared.entry.Entry.{Entry}
use Rattle.one_history.specs.declared.entry.Told.{Told}
use Rattle.one_history.specs.History.{fold, caller_at, reply_at, IsReplyTo}

module _ {M : Type 0} where
  pub caller_at_append : (history tail : List (Entry M)) (place caller : ℕ) → caller_at history place ≡ Some caller → caller_at (history ++ tail) place ≡ Some caller
  unfolding caller_at
  caller_at_append [] tail place caller at = cc
  caller_at_append (e ∷ history) tail zero caller at = at
  caller_at_append (e ∷ history) tail (suc place) caller at = caller_at_append history tail place caller at

  pub caller_at_push : (history : List (Entry M)) (e : Entry M) → caller_at (history ++ e ∷ []) (length history) ≡ Some e.caller
  unfolding caller_at
  caller_at_push [] e = refl
  caller_at_push (x ∷ history) e = caller_at_push history e

  pub caller_at_within : (history : List (Entry M)) (place caller : ℕ) → caller_at history place ≡ Some caller → place < length history
  unfolding caller_at
  caller_at_within [] place caller at = cc
  caller_at_within (e ∷ history) zero caller at = omega arith
  caller_at_within (e ∷ history) (suc place) caller at = let rest = caller_at_within history place caller at in omega (arith, rest)

  pub slice_get_append : (history tail : List (Entry M)) (place : ℕ) (e : Entry M) → slice_get history place ≡ Some e → slice_get (history ++ tail) place ≡ Some e
  slice_get_append [] tail place e at = cc
  slice_get_append (x ∷ history) tail zero e at = at
  slice_get_append (x ∷ history) tail (suc place) e at = slice_get_append history tail place e at

  pub slice_get_push : (history : List (Entry M)) (e : Entry M) → slice_get (history ++ e ∷ []) (length history) ≡ Some e
  slice_get_push [] e = refl
  slice_get_push (x ∷ history) e = slice_get_push history e

module _ {S M R : Type 0} (next : S → ℕ → ℕ → M → S) (reply : S → ℕ → ℕ → M → R) where
  pub reply_at_append : (start : S) (history tail : List (Entry M)) (place : ℕ) (r : R) → reply_at next start reply history place ≡ Some r → reply_at next start reply (history ++ tail) place ≡ Some r
  unfolding reply_at fold
  reply_at_append start [] tail place r at = cc
  reply_at_append start (e ∷ history) tail zero r at = at
  reply_at_append start (e ∷ history) tail (suc place) r at = reply_at_append (next start e.caller e.moment e.command) history tail place r at

  pub reply_at_push : (start : S) (history : List (Entry M)) (e : Entry M) → reply_at next start reply (history ++ e ∷ []) (length history) ≡ Some (reply (fold next start history) e.caller e.moment e.command)
  unfolding reply_at fold
  reply_at_push start [] e = refl
  reply_at_push start (x ∷ history) e = reply_at_push (next start x.caller x.moment x.command) history e

  -- the reply to an entry stays the same
  pub reply_to_append : (start : S) (history tail : List (Entry M)) (caller : ℕ) (told : Told R) → IsReplyTo next start reply history caller told → IsReplyTo next start reply (history ++ tail) caller told
  reply_to_append start history tail caller told is = record {
    caller = caller_at_append history tail told.at caller is.caller;
    reply_is = reply_at_append start history tail told.at told.reply is.reply_is;
  }

  -- a new entry is told the reply after the earlier entries
  pub reply_to_push : (start : S) (history : List (Entry M)) (e : Entry M) (told : Told R) → told.at ≡ length history
      → told.reply ≡ reply (fold next start history) e.caller e.moment e.command → IsReplyTo next start reply (history ++ e ∷ []) e.caller told
  reply_to_push start history e told at is = record {
    caller = rw at (caller_at_push history e);
    reply_is = rw (at, is) (reply_at_push start history e);
  }
