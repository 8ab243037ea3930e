-- The entries of one number in a history, as an entry is added, and what passes keep of them.
use Rattle.std.proofs.Common.{◌≡◌, ℕ, ◌==◌, ◌<◌, ◌≢◌, cond, eq-eqb, ne_eqb, List, [], ◌∷◌, ◌++◌, sym, refl, ap, ◌∙◌, arith, All}
use Rattle.std.proofs.lemmas.List.{append-nil, append_cancel_left}
use Rattle.std.proofs.lemmas.List.Elements.{All-cons, All-nil, All-tail, filter-append}
use mathlib.Core.Logic.{dite}
use native.Mathlib.Decide.{ℕ_discrete}
use Rattle.one_history.specs.declared.entry.Entry.{Entry}
use Rattle.one_history.specs.History.{entries_by}
use Rattle.turn_desk.specs.declared.view.Kept.{Kept}
use Rattle.turn_desk.specs.Numbers.{times_in}
use Rattle.turn_desk.specs.View.{numbers_in, AgreesWith}
use Rattle.turn_desk.proofs.Prefixes.{prefix_more}
use Rattle.turn_desk.proofs.Numbers.{not_first, not_after}

module _ {M : Type 0} where
  pub entries_none : (n : ℕ) (history : List (Entry M)) → All (λ (e : Entry M). e.caller < n) history → entries_by n history ≡ []
  entries_none n [] h = refl
  entries_none n (e ∷ es) h = let first : e.caller < n = h 0 e (omega arith) in
      ap (λ b. cond b (e ∷ entries_by n es) (entries_by n es)) (ne_eqb e.caller n (λ is. omega arith)) ∙ entries_none n es (All-tail (λ (x : Entry M). x.caller < n) e es h)

  -- if all callers are below 1, all entries are those of 0
  pub entries_all : (history : List (Entry M)) → All (λ (e : Entry M). e.caller < 1) history → entries_by 0 history ≡ history
  entries_all [] h = refl
  entries_all (e ∷ es) h = let first : e.caller < 1 = h 0 e (omega arith) in let is : e.caller ≡ 0 = omega arith in
      ap (λ b. cond b (e ∷ entries_by 0 es) (entries_by 0 es)) (eq-eqb e.caller 0 is) ∙ ap (λ l. e ∷ l) (entries_all es (All-tail (λ (x : Entry M). x.caller < 1) e es h))

  pub entries_own : (n : ℕ) (history : List (Entry M)) (e : Entry M) → e.caller ≡ n → entries_by n (history ++ e ∷ []) ≡ entries_by n history ++ e ∷ []
  entries_own n history e is = filter-append (λ (x : Entry M). x.caller == n) history (e ∷ []) ∙ ap (λ b. entries_by n history ++ cond b (e ∷ []) []) (eq-eqb e.caller n is)

  pub entries_other : (n : ℕ) (history : List (Entry M)) (e : Entry M) → e.caller ≢ n → entries_by n (history ++ e ∷ []) ≡ entries_by n history
  entries_other n history e ne = filter-append (λ (x : Entry M). x.caller == n) history (e ∷ [])
      ∙ (ap (λ b. entries_by n history ++ cond b (e ∷ []) []) (ne_eqb e.caller n ne) ∙ append-nil (entries_by n history))

  -- no entry has the number if none is found
  no_entries : (n : ℕ) (history : List (Entry M)) → entries_by n history ≡ [] → All (λ (e : Entry M). e.caller ≢ n) history
  no_entries n [] h = All-nil (λ (e : Entry M). e.caller ≢ n)
  no_entries n (e ∷ es) h = dite (ℕ_discrete e.caller n)
      (λ is. let z : e ∷ entries_by n es ≡ [] = sym (ap (λ b. cond b (e ∷ entries_by n es) (entries_by n es)) (eq-eqb e.caller n is)) ∙ h in absurd (cc z))
      (λ ne. All-cons (λ (x : Entry M). x.caller ≢ n) e es ne (no_entries n es (sym (ap (λ b. cond b (e ∷ entries_by n es) (entries_by n es)) (ne_eqb e.caller n ne)) ∙ h)))

  -- what comes between two histories with the same entries of a number has none
  pub others_between : (n : ℕ) (history between calls : List (Entry M)) → entries_by n history ≡ calls → entries_by n (history ++ between) ≡ calls → All (λ (e : Entry M). e.caller ≢ n) between
  others_between n history between calls before after = no_entries n between
      (append_cancel_left (entries_by n history) (entries_by n between) [] (sym (filter-append (λ (e : Entry M). e.caller == n) history between) ∙ (after ∙ (sym before ∙ sym (append-nil (entries_by n history))))))

  pub agrees_more : (history : List (Entry M)) (e : Entry M) (kept : Kept M) → e.caller ≢ kept.number → AgreesWith history kept → AgreesWith (history ++ e ∷ []) kept
  agrees_more history e kept ne h = record { calls = entries_other kept.number history e ne ∙ h.calls; seen = prefix_more kept.seen history e h.seen; own = h.own }

  pub all_agree_more : (history : List (Entry M)) (e : Entry M) (kept : List (Kept M)) → times_in e.caller (numbers_in kept) ≡ 0 → All (AgreesWith history) kept → All (AgreesWith (history ++ e ∷ [])) kept
  all_agree_more history e [] z h = All-nil (AgreesWith (history ++ e ∷ []))
  all_agree_more history e (k ∷ kept) z h = All-cons (AgreesWith (history ++ e ∷ [])) k kept (agrees_more history e k (not_first e.caller k.number _ z) (h 0 k (omega arith)))
      (all_agree_more history e kept (not_after e.caller k.number _ z) (All-tail (AgreesWith history) k kept h))
