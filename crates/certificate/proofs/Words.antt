-- Words, and numbers after a space, are read if and only if the text begins with them.
use Rattle.std.proofs.Common.{ℕ, ◌^◌, ◌<◌, ◌≤◌, ◌≡◌, List, [], ◌∷◌, ◌++◌, true, cond, length, take, drop, Some, None, refl, sym, ap, ◌∙◌, arith, append_assoc, take-append-drop}
use Rattle.std.specs.Prelude.{◌&&◌, ◌==◌, decimal, nat_eq}
use Rattle.std.specs.List.{starts_with}
use Rattle.std.specs.Cmp.Lexicographic.{pointwise, same_text}
use Rattle.std.proofs.lemmas.Bool.{eqb-true, eq-eqb}
use Rattle.std.proofs.lemmas.Option.{none-some}
use Rattle.std.proofs.lemmas.List.{take_at, drop_at}
use Rattle.certificate.specs.Text.{fields}
use Rattle.certificate.specs.Reading.{read_word, read_byte, read_number, read_field}
use Rattle.certificate.proofs.Chains.{cond_some, and_then_some}
use Rattle.certificate.proofs.Written.{NoDigit, read_number_sound, read_number_complete}

pub starts_sound : (word text : List ℕ) → starts_with nat_eq text word ≡ true → text ≡ word ++ drop (length word) text
starts_sound word text e = sym (take-append-drop (length word) text) ∙ ap (λ w. w ++ drop (length word) text) (sym (same_text word (take (length word) text) (sym e)))

pub read_word_sound : (word text rest : List ℕ) → read_word word text ≡ Some rest → text ≡ word ++ rest
unfolding read_word
read_word_sound word text rest e =
    let h = cond_some (starts_with nat_eq text word) _ rest e in
    starts_sound word text h.0 ∙ ap (λ r. word ++ r) h.1

word_itself : (word : List ℕ) → pointwise nat_eq word word ≡ true
word_itself [] = refl
word_itself (w ∷ word) = ap (λ b. b && pointwise nat_eq word word) (eq-eqb w w refl) ∙ word_itself word

pub read_word_complete : (word rest : List ℕ) → read_word word (word ++ rest) ≡ Some rest
unfolding read_word
read_word_complete word rest =
    let front = take_at word rest (length word) refl in
    let after = drop_at word rest (length word) refl in
    ap (λ w. cond (pointwise nat_eq word w) (Some (drop (length word) (word ++ rest))) None) front
    ∙ ap (λ b. cond b (Some (drop (length word) (word ++ rest))) None) (word_itself word)
    ∙ ap Some after

pub read_byte_sound : (byte : ℕ) (text rest : List ℕ) → read_byte byte text ≡ Some rest → text ≡ byte ∷ rest
read_byte_sound byte [] rest e = absurd (none-some rest e)
read_byte_sound byte (c ∷ text) rest e =
    let h = cond_some (c == byte) text rest e in
    ap (λ b. b ∷ text) (eqb-true c byte h.0) ∙ ap (λ r. byte ∷ r) h.1

pub read_byte_complete : (byte : ℕ) (rest : List ℕ) → read_byte byte (byte ∷ rest) ≡ Some rest
read_byte_complete byte rest = ap (λ b. cond b (Some rest) None) (eq-eqb byte byte refl)

pub read_field_sound : (most : ℕ) (text rest : List ℕ) (n : ℕ) → read_field most text ≡ Some (n, rest) → (n ≤ most) × (text ≡ 32 ∷ (decimal n ++ rest))
unfolding read_field
read_field_sound most text rest n e =
    and_then_some _ (read_byte 32 text) _ e λ after space number.
    let h = read_number_sound _ most after rest n (omega arith) number in
    (h.0, read_byte_sound 32 text after space ∙ ap (λ r. 32 ∷ r) h.1)

-- fields, and what comes after them
pub fields_end : (text rest : List ℕ) → text ≡ 10 ∷ rest → text ≡ fields [] ++ rest
fields_end text rest e = e

pub fields_step : (n : ℕ) (ns text after rest : List ℕ) → text ≡ 32 ∷ (decimal n ++ after) → after ≡ fields ns ++ rest → text ≡ fields (n ∷ ns) ++ rest
fields_step n ns text after rest e f = e ∙ ap (λ r. 32 ∷ (decimal n ++ r)) f ∙ ap (λ r. 32 ∷ r) (sym (append_assoc (decimal n) (fields ns) rest))

fields_stop : (ns rest : List ℕ) → NoDigit (fields ns ++ rest)
fields_stop [] rest = refl
fields_stop (n ∷ ns) rest = refl

pub read_field_complete : (most n : ℕ) (ns rest : List ℕ) → n ≤ most → most < 10 ^ 19 → read_field most (fields (n ∷ ns) ++ rest) ≡ Some (n, fields ns ++ rest)
unfolding read_field
read_field_complete most n ns rest le few =
    ap (read_number 19 most) (append_assoc (decimal n) (fields ns) rest)
    ∙ read_number_complete 19 most n (fields ns ++ rest) (omega arith) (omega arith) le (omega (arith, le, few)) (fields_stop ns rest)
