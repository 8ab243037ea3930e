-- Words as the help spells them are taken, and ask for what they spell.
use Rattle.std.proofs.Common.{◌≡◌, ◌==◌, ℕ, List, [], ◌∷◌, Some, None, false, refl, sym, subst, ◌∙◌, codes}
use Rattle.clap.proofs.OnLiterals.{clap_on_literals}
use Rattle.askrened.specs.Form.{Invocation, Bytes, invocation_of, ask_with, check_alone, gen_with, serve_with, AreRefused, AsksForOther, AsksToServe}
use Rattle.askrened.specs.Words.{IsPlain, spelling_of}
use Rattle.askrened.proofs.Asking.{refused_asks_none, other_is_not_to_serve}
use Rattle.askrened.proofs.GenWords.{spelled_gen}
use Rattle.askrened.proofs.ServeWords.{spelled_serve}
use Rattle.askrened.proofs.PlainWords.{no_dash, no_long, no_short, no_dashes}

-- each choice of options
check_asked : invocation_of (codes "check" ∷ []) ≡ Some check_alone
unfolding clap_on_literals
check_asked = refl

bare_asked : invocation_of (codes "ask" ∷ []) ≡ Some (ask_with None None)
unfolding clap_on_literals
bare_asked = refl

map_asked : (x : ℕ) (xs : List ℕ) → (x == 45) ≡ false → invocation_of (codes "ask" ∷ codes "--map" ∷ (x ∷ xs) ∷ []) ≡ Some (ask_with (Some (x ∷ xs)) None)
unfolding clap_on_literals
map_asked x xs e = simp (no_long x xs e, no_short x xs e, no_dashes x xs e)

local_asked : (y : ℕ) (ys : List ℕ) → (y == 45) ≡ false → invocation_of (codes "ask" ∷ codes "--local" ∷ (y ∷ ys) ∷ []) ≡ Some (ask_with None (Some (y ∷ ys)))
unfolding clap_on_literals
local_asked y ys e = simp (no_long y ys e, no_short y ys e, no_dashes y ys e)

both_asked : (x : ℕ) (xs : List ℕ) (y : ℕ) (ys : List ℕ) → (x == 45) ≡ false → (y == 45) ≡ false
    → invocation_of (codes "ask" ∷ codes "--map" ∷ (x ∷ xs) ∷ codes "--local" ∷ (y ∷ ys) ∷ []) ≡ Some (ask_with (Some (x ∷ xs)) (Some (y ∷ ys)))
unfolding clap_on_literals
both_asked x xs y ys e f = simp (no_long x xs e, no_short x xs e, no_dashes x xs e, no_long y ys f, no_short y ys f, no_dashes y ys f)

pub spelled_asked : (asked : Invocation) → IsPlain asked → invocation_of (spelling_of asked) ≡ Some asked
spelled_asked check_alone plain = check_asked
spelled_asked (gen_with size) plain = spelled_gen size plain.0 plain.1
spelled_asked (serve_with service map local) plain = spelled_serve service map local plain.0.0 plain.0.1 plain.1.0 plain.1.1
spelled_asked (ask_with None None) plain = bare_asked
spelled_asked (ask_with (Some []) local) plain = absurd plain.0
spelled_asked (ask_with (Some (x ∷ xs)) None) plain = map_asked x xs (no_dash x plain.0)
spelled_asked (ask_with None (Some [])) plain = absurd plain.1
spelled_asked (ask_with None (Some (y ∷ ys))) plain = local_asked y ys (no_dash y plain.1)
spelled_asked (ask_with (Some (x ∷ xs)) (Some [])) plain = absurd plain.1
spelled_asked (ask_with (Some (x ∷ xs)) (Some (y ∷ ys))) plain = both_asked x xs y ys (no_dash x plain.0) (no_dash y plain.1)

plain_is_asked : (words : List Bytes) (asked : Invocation) → IsPlain asked → words ≡ spelling_of asked → invocation_of words ≡ Some asked
plain_is_asked words asked plain is = subst (λ w. invocation_of w ≡ Some asked) (sym is) (spelled_asked asked plain)

-- so they are not refused
pub plain_is_taken : (words : List Bytes) (asked : Invocation) → IsPlain asked → words ≡ spelling_of asked → ¬ (AreRefused words)
plain_is_taken words asked plain is refused = let e = plain_is_asked words asked plain is in let f = refused_asks_none words refused in let same : None ≡ Some asked = sym f ∙ e in cc

-- and ask for nothing else
pub plain_serve_is_no_other : (words : List Bytes) (wanted : Invocation) → IsPlain wanted → AsksToServe (Some wanted) → words ≡ spelling_of wanted → AsksForOther (invocation_of words) → ⊥
plain_serve_is_no_other words wanted plain serves is other = other_is_not_to_serve (Some wanted) (subst AsksForOther (plain_is_asked words wanted plain is) other) serves

pub plain_other_is_not_to_serve : (words : List Bytes) (wanted : Invocation) → IsPlain wanted → AsksForOther (Some wanted) → words ≡ spelling_of wanted → AsksToServe (invocation_of words) → ⊥
plain_other_is_not_to_serve words wanted plain other is serves = other_is_not_to_serve (Some wanted) other (subst AsksToServe (plain_is_asked words wanted plain is) serves)
