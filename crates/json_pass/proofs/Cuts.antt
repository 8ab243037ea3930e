-- The tokens of a text that is cut after a closing brace.
use Rattle.std.proofs.Common.{◌≡◌, ℕ, ◌+◌, ◌-◌, Bool, true, false, cond, not, ◌&&◌, ◌||◌, ◌==◌, nat_eq, nat_lt, List, [], ◌∷◌, ◌++◌, length, take, drop, Option, Some, None, option_map, option_and_then, is_some, true≢false, refl, sym, ap, ap₂, ◌∙◌, subst, arith}
use Rattle.std.proofs.lemmas.Bool.{false≢true, and_from, and_parts, not-true, eqb-true, ne_eqb}
use Rattle.std.proofs.lemmas.List.{length-append, take-append-le, drop-append-le}
use Rattle.std.proofs.lemmas.List.Sums.{prefix_len-le-length}
use Rattle.std.specs.Prelude.{⊤}
use Rattle.std.specs.Char.{is_ascii_digit, is_digit, encode_utf8}
use Rattle.std.specs.List.{prefix_len, starts_with}
use Rattle.json.specs.Token.{Token}
use Rattle.json.specs.Text.{code_unit, short_escape, is_high_surrogate, is_low_surrogate, surrogate_pair, Within, plain, after_backslash, after_u, after_high, prepend, content}
use Rattle.json.specs.Word.{is_operator, is_space, ends_word, after_digits, after_minus, after_sign, after_whole, after_fraction, after_exponent, after_number, number_before, literal, word}
use Rattle.json.specs.Lex.{Lexeme, token, comma, colon, Class, quote, backslash, operator, space, other, class, operator_lexeme, string_token, Mode, between, in_word, in_string, in_escape, lex_byte, lex}
use Rattle.json.specs.Lex.{Place, fresh, after_value, after_comma, after_key, begins_colon, may_begin, may_close, if_allowed, place_token, punctuate, tokens}
use Rattle.json.specs.Align.{is_good, begins_well}
use Rattle.json_pass.specs.Pieces.{are_good, tokens_after_comma}

-- ---- a word ends at a closing brace as at the end of the text

-- the brace is none of the bytes of a name
abbrev no_brace : List ℕ → Bool
no_brace [] = true
no_brace (n ∷ name) = not (nat_eq n 125) && no_brace name

-- `rest` is what follows the brace
module _ (rest : List ℕ) where
  abbrev braced : List ℕ → List ℕ
  braced t = t ++ 125 ∷ rest

  -- what a part leaves of a text, with the brace and the rest
  abbrev left : Option (List ℕ) → Option (List ℕ)
  left o = option_map braced o

  ends : (t : List ℕ) → ends_word (braced t) ≡ ends_word t
  ends [] = refl
  ends (x ∷ xs) = refl

  test : {A : Type 0} (f : A → A) (b : Bool) (p q : A) {p' q' : A} → p' ≡ f p → q' ≡ f q → cond b p' q' ≡ f (cond b p q)
  test f true p q d e = d
  test f false p q d e = e

  count : (t : List ℕ) → prefix_len is_ascii_digit (braced t) ≡ prefix_len is_ascii_digit t
  count [] = refl
  count (x ∷ xs) = ap (λ n. cond (is_ascii_digit x) (1 + n) 0) (count xs)

  digits : (t : List ℕ) → after_digits (braced t) ≡ left (after_digits t)
  digits t =
      let n = prefix_len is_ascii_digit t in
      ap (λ k. cond (k == 0) None (Some (drop k (braced t)))) (count t) ∙ test left (n == 0) None (Some (drop n t)) refl (ap Some (drop-append-le n t (125 ∷ rest) (prefix_len-le-length is_ascii_digit t)))

  sign : (t : List ℕ) → after_sign (braced t) ≡ braced (after_sign t)
  sign [] = refl
  sign (x ∷ xs) = test braced ((x == 45) || (x == 43)) xs (x ∷ xs) refl refl

  minus : (t : List ℕ) → after_minus (braced t) ≡ braced (after_minus t)
  minus [] = refl
  minus (x ∷ xs) = test braced (x == 45) xs (x ∷ xs) refl refl

  whole : (t : List ℕ) → after_whole (braced t) ≡ left (after_whole t)
  whole [] = refl
  whole (x ∷ xs) = test left (x == 48) (Some xs) (after_digits (x ∷ xs)) refl (digits (x ∷ xs))

  fraction : (t : List ℕ) → after_fraction (braced t) ≡ left (after_fraction t)
  fraction [] = refl
  fraction (x ∷ xs) = test left (x == 46) (after_digits xs) (Some (x ∷ xs)) (digits xs) refl

  exponent : (t : List ℕ) → after_exponent (braced t) ≡ left (after_exponent t)
  exponent [] = refl
  exponent (x ∷ xs) = test left ((x == 101) || (x == 69)) (after_digits (after_sign xs)) (Some (x ∷ xs)) (ap after_digits (sign xs) ∙ digits (after_sign xs)) refl

  then : (f : List ℕ → Option (List ℕ)) → ((t : List ℕ) → f (braced t) ≡ left (f t)) → (o : Option (List ℕ)) → option_and_then f (left o) ≡ left (option_and_then f o)
  then f same None = refl
  then f same (Some t) = same t

  number_left : (t : List ℕ) → after_number (braced t) ≡ left (after_number t)
  unfolding after_number
  number_left t =
      let w = after_whole (after_minus t) in
      ap (λ o. option_and_then after_exponent (option_and_then after_fraction o)) (ap after_whole (minus t) ∙ whole (after_minus t))
      ∙ ap (option_and_then after_exponent) (then after_fraction fraction w) ∙ then after_exponent exponent (option_and_then after_fraction w)

  same_number : (t : List ℕ) (o : Option (List ℕ)) → number_before (braced t) (left o) ≡ number_before t o
  same_number t None = refl
  same_number t (Some u) =
      let size : length (braced t) - length (braced u) ≡ length t - length u = omega (arith, length-append t (125 ∷ rest), length-append u (125 ∷ rest)) in
      ap₂ (λ b s. cond b (Token.number s) Token.bad) (ends u) (ap (λ n. take n (braced t)) size ∙ take-append-le (length t - length u) t (125 ∷ rest) (omega arith))

  named : (name t : List ℕ) → no_brace name ≡ true → (starts_with nat_eq (braced t) name && ends_word (drop (length name) (braced t))) ≡ (starts_with nat_eq t name && ends_word (drop (length name) t))
  named [] t h = ends t
  named (n ∷ name) [] h = ap (λ b. (b && starts_with nat_eq rest name) && ends_word (drop (length name) rest)) (not-true _ (and_parts _ _ h).0)
  named (n ∷ name) (x ∷ xs) h = by (nat_eq n x) (named name xs (and_parts _ _ h).1)
    where
      by : (b : Bool) → (starts_with nat_eq (braced xs) name && ends_word (drop (length name) (braced xs))) ≡ (starts_with nat_eq xs name && ends_word (drop (length name) xs))
          → ((b && starts_with nat_eq (braced xs) name) && ends_word (drop (length name) (braced xs))) ≡ ((b && starts_with nat_eq xs name) && ends_word (drop (length name) xs))
      by true same = same
      by false same = refl

  -- the end of the text ends a word, as the brace does
  same_word : (x : ℕ) (xs : List ℕ) → word (braced (x ∷ xs)) ≡ word (x ∷ xs)
  unfolding word
  same_word x xs =
      let t = x ∷ xs in
      let name : (text : List ℕ) (k : Token) → no_brace text ≡ true → literal text k (braced t) ≡ literal text k t = λ text k h. ap (λ b. cond b k Token.bad) (named text t h) in
      (λ i. cond (x == 116) (name (116 ∷ 114 ∷ 117 ∷ 101 ∷ []) (Token.boolean true) refl i)
      (cond (x == 102) (name (102 ∷ 97 ∷ 108 ∷ 115 ∷ 101 ∷ []) (Token.boolean false) refl i)
      (cond (x == 110) (name (110 ∷ 117 ∷ 108 ∷ 108 ∷ []) Token.null refl i) ((ap (number_before (braced t)) (number_left t) ∙ same_number t (after_number t)) i))))

-- ---- a string that is whole before the brace

-- the lexer leaves the string that it is in
abbrev closes : Mode → List ℕ → Bool
closes between xs = true
closes in_word xs = true
closes in_string [] = false
closes in_string (x ∷ xs) = cond (x == 34) true (cond (x == 92) (closes in_escape xs) (closes in_string xs))
closes in_escape [] = false
closes in_escape (x ∷ xs) = closes in_string xs

abbrev mode : Within → Mode
mode plain = in_string
mode after_backslash = in_escape
mode after_u = in_string
mode (after_high h) = in_string

-- where o is a content, p is the same, and the string closes
abbrev Whole : Option (List ℕ) → Option (List ℕ) → Bool → Type 0
Whole None p c = ⊤
Whole (Some s) p c = (p ≡ Some s) × (c ≡ true)

is_whole : (o p : Option (List ℕ)) (c : Bool) → Whole o p c → is_good (string_token o) ≡ true → (p ≡ o) × (c ≡ true)
is_whole None p c w h = absurd (false≢true h)
is_whole (Some s) p c w h = w

apart : (q : Bool) (x y x' y' : Option (List ℕ)) (c d : Bool) → Whole x x' c → Whole y y' d → Whole (cond q x y) (cond q x' y') (cond q c d)
apart true x y x' y' c d f g = f
apart false x y x' y' c d f g = g

both : (q : Bool) (x y x' y' : Option (List ℕ)) (c : Bool) → (q ≡ true → Whole x x' c) → Whole y y' c → Whole (cond q x y) (cond q x' y') c
both true x y x' y' c f g = f refl
both false x y x' y' c f g = g

after : (a : List ℕ) (o p : Option (List ℕ)) (c : Bool) → Whole o p c → Whole (prepend a o) (prepend a p) c
after a None p c w = tt
after a (Some s) p c w = (ap (prepend a) w.0, w.1)

with : (f g : ℕ → Option (List ℕ)) (o : Option ℕ) (c : Bool) → (is_some o ≡ true → (u : ℕ) → Whole (f u) (g u) c) → Whole (option_and_then f o) (option_and_then g o) c
with f g None c h = tt
with f g (Some u) c h = h refl u

all_hex : (b : Bool) (u : ℕ) → is_some (cond b (Some u) None) ≡ true → b ≡ true
all_hex true u h = refl
all_hex false u h = absurd (false≢true h)

-- a hex digit is no quote and no backslash
closes_hex : (x : ℕ) (xs : List ℕ) → is_digit x 16 ≡ true → closes in_string (x ∷ xs) ≡ closes in_string xs
closes_hex x xs h =
    let never : (c : ℕ) → is_digit c 16 ≡ false → (x == c) ≡ false = λ c no. ne_eqb x c (λ e. true≢false (sym h ∙ ap (λ y. is_digit y 16) e ∙ no)) in
    (λ i. cond (never 34 refl i) true (cond (never 92 refl i) (closes in_escape xs) (closes in_string xs)))

-- four hex digits are passed
closes_unit : (a b c d : ℕ) (xs : List ℕ) → is_some (code_unit a b c d) ≡ true → (closes in_string (a ∷ b ∷ c ∷ d ∷ xs) ≡ closes in_string xs) × (is_digit d 16 ≡ true)
unfolding code_unit
closes_unit a b c d xs h =
    let p = and_parts (is_digit a 16 && is_digit b 16 && is_digit c 16) (is_digit d 16) (all_hex _ _ h) in
    let q = and_parts (is_digit a 16 && is_digit b 16) (is_digit c 16) p.0 in
    let r = and_parts (is_digit a 16) (is_digit b 16) q.0 in
    (closes_hex a (b ∷ c ∷ d ∷ xs) r.0 ∙ closes_hex b (c ∷ d ∷ xs) r.1 ∙ closes_hex c (d ∷ xs) q.1 ∙ closes_hex d xs p.1, p.1)

module _ (rest : List ℕ) where
  abbrev Kept : Within → List ℕ → Bool → Type 0
  Kept w xs c = Whole (content w (xs ++ 125 ∷ [])) (content w (xs ++ 125 ∷ rest)) c

  unit : (f g : ℕ → Option (List ℕ)) (a b c d : ℕ) (xs : List ℕ) → ((u : ℕ) → Whole (f u) (g u) (closes in_string xs))
      → Whole (option_and_then f (code_unit a b c d)) (option_and_then g (code_unit a b c d)) (closes in_string (a ∷ b ∷ c ∷ d ∷ xs))
  unit f g a b c d xs h = with f g (code_unit a b c d) _ (λ e u. subst (Whole (f u) (g u)) (sym (closes_unit a b c d xs e).0) (h u))

  no_unit : (f g : ℕ → Option (List ℕ)) (a b c : ℕ) (e : Bool) → Whole (option_and_then f (code_unit a b c 125)) (option_and_then g (code_unit a b c 125)) e
  no_unit f g a b c e = with f g (code_unit a b c 125) e (λ h u. absurd (false≢true (closes_unit a b c 125 [] h).1))

  -- a content that is read before the brace does not depend on what follows
  kept : (w : Within) (xs : List ℕ) → Kept w xs (closes (mode w) xs)
  unfolding content short_escape
  kept plain (x ∷ xs) =
      apart (x == 34) _ _ _ _ _ _ (refl, refl) (apart (x == 92) _ _ _ _ _ _ (kept after_backslash xs) (both (nat_lt x 32) _ _ _ _ _ (λ l. tt) (after (x ∷ []) _ _ _ (kept plain xs))))
  kept after_backslash (x ∷ xs) = both (x == 117) _ _ _ _ _ (λ u. kept after_u xs) (with _ _ (short_escape x) _ (λ h c. after (c ∷ []) _ _ _ (kept plain xs)))
  kept after_u (a ∷ b ∷ c ∷ []) = no_unit _ _ a b c _
  kept after_u (a ∷ b ∷ c ∷ d ∷ xs) =
      unit _ _ a b c d xs (λ u. both (is_high_surrogate u) _ _ _ _ _ (λ h. kept (after_high u) xs) (both (is_low_surrogate u) _ _ _ _ _ (λ h. tt) (after (encode_utf8 u) _ _ _ (kept plain xs))))
  kept (after_high h) (s ∷ u ∷ a ∷ b ∷ c ∷ []) = both ((s == 92) && (u == 117)) _ _ _ _ _ (λ e. no_unit _ _ a b c _) tt
  kept (after_high h) (s ∷ u ∷ a ∷ b ∷ c ∷ d ∷ xs) =
      both ((s == 92) && (u == 117)) _ _ _ _ _ (λ e. subst (Whole _ _) (ap (λ y. closes in_string (y ∷ u ∷ a ∷ b ∷ c ∷ d ∷ xs)) (sym (eqb-true s 92 (and_parts _ _ e).0)))
      (unit _ _ a b c d xs (λ l. both (is_low_surrogate l) _ _ _ _ _ (λ y. after (encode_utf8 (surrogate_pair h l)) _ _ _ (kept plain xs)) tt))) tt
  kept w xs = tt

-- ---- the lexemes up to the brace, and those after it

-- no lexeme is a bad token
abbrev no_bad : List Lexeme → Bool
no_bad [] = true
no_bad (l ∷ ls) = begins_well (l ∷ ls) && no_bad ls

-- the brace is a lexeme, and the next lexeme begins after it
abbrev Ends : (List ℕ → List Lexeme) → Type 0
Ends f = (front : List Lexeme) × ((b : List ℕ) → f b ≡ front ++ token Token.end_object ∷ lex between b)

next : (g : List ℕ → Lexeme) (f : List ℕ → List Lexeme) → ((b : List ℕ) → g b ≡ g []) → Ends f → Ends (λ b. g b ∷ f b)
next g f e h = (g [] ∷ h.0, λ b. ap₂ (λ l ls. l ∷ ls) (e b) (h.1 b))

module _ (x : ℕ) (xs : List ℕ) (more : (m : Mode) → closes m xs ≡ true → no_bad (lex m (xs ++ 125 ∷ [])) ≡ true → Ends (λ b. lex m (xs ++ 125 ∷ b))) where
  abbrev byte : Mode → Class → List ℕ → List Lexeme
  byte m c b = lex_byte m c x (xs ++ 125 ∷ b) (λ n. lex n (xs ++ 125 ∷ b))

  mark : no_bad (operator_lexeme x ∷ lex between (xs ++ 125 ∷ [])) ≡ true → Ends (λ b. operator_lexeme x ∷ lex between (xs ++ 125 ∷ b))
  mark h = next (λ b. operator_lexeme x) _ (λ b. refl) (more between refl (and_parts _ _ h).1)

  outside : (c : Class) → no_bad (byte between c []) ≡ true → Ends (byte between c)
  outside quote h =
      let parts = and_parts _ _ h in
      let string = λ (b : List ℕ). is_whole _ _ _ (kept b plain xs) parts.0 in
      next (λ b. token (string_token (content plain (xs ++ 125 ∷ b)))) _ (λ b. ap (λ o. token (string_token o)) (string b).0) (more in_string (string []).1 parts.1)
  outside backslash h = absurd (false≢true h)
  outside operator h = mark h
  outside space h = more between refl h
  outside other h = next (λ b. token (word (x ∷ (xs ++ 125 ∷ b)))) _ (λ b. ap token (same_word b x xs ∙ sym (same_word [] x xs))) (more in_word refl (and_parts _ _ h).1)

  in_a_word : (c : Class) → no_bad (byte in_word c []) ≡ true → Ends (byte in_word c)
  in_a_word operator h = mark h
  in_a_word space h = more between refl h
  in_a_word c h = more in_word refl h

  inside : (q b o s : Bool) → cond q true (cond b (closes in_escape xs) (closes in_string xs)) ≡ true
      → no_bad (byte in_string (cond q quote (cond b backslash (cond o operator (cond s space other)))) []) ≡ true → Ends (byte in_string (cond q quote (cond b backslash (cond o operator (cond s space other)))))
  inside true b o s c h = more between refl h
  inside false true o s c h = more in_escape c h
  inside false false true s c h = more in_string c h
  inside false false false true c h = more in_string c h
  inside false false false false c h = more in_string c h

cut : (m : Mode) (a : List ℕ) → closes m a ≡ true → no_bad (lex m (a ++ 125 ∷ [])) ≡ true → Ends (λ b. lex m (a ++ 125 ∷ b))
unfolding lex
cut between [] c h = ([], λ b. refl)
cut between (x ∷ xs) c h = outside x xs (λ n. cut n xs) (class x) h
cut in_word [] c h = ([], λ b. refl)
cut in_word (x ∷ xs) c h = in_a_word x xs (λ n. cut n xs) (class x) h
cut in_string [] c h = absurd (false≢true c)
cut in_string (x ∷ xs) c h = inside x xs (λ n. cut n xs) (x == 34) (x == 92) (is_operator x) (is_space x) c h
cut in_escape [] c h = absurd (false≢true c)
cut in_escape (x ∷ xs) c h = cut in_string xs c h

-- ---- commas and colons

-- a good token leads to a place n from where the rest is read
abbrev Leads : Bool → ((Place → List Token) → List Token) → (Place → List Token) → Type 0
Leads good f k = are_good (f k) ≡ true → (good ≡ true) × (n : Place) × (are_good (k n) ≡ true) × ((j : Place → List Token) (ts : List Token) → j n ≡ k n ++ ts → f j ≡ f k ++ ts)

allowed : (b : Bool) (t : Token) (n : Place) (k : Place → List Token) → Leads (is_good t) (λ j. if_allowed b t j n) k
allowed true t n k h = let parts = and_parts (is_good t) (are_good (k n)) h in (parts.0, n, parts.1, λ j ts e. ap (λ l. t ∷ l) e)
allowed false t n k h = absurd (false≢true h)

placed : (p : Place) (t : Token) (colon_next : Bool) (k : Place → List Token) → Leads (is_good t) (place_token p t colon_next) k
placed p Token.begin_object c k = allowed (may_begin p) Token.begin_object fresh k
placed p Token.end_object c k = allowed (may_close p) Token.end_object after_value k
placed p Token.begin_array c k = allowed (may_begin p) Token.begin_array fresh k
placed p Token.end_array c k = allowed (may_close p) Token.end_array after_value k
placed p (Token.string s) true k = allowed (may_begin p) (Token.key s) after_key k
placed p (Token.string s) false k = allowed (may_begin p) (Token.string s) after_value k
placed p (Token.number s) c k = allowed (may_begin p) (Token.number s) after_value k
placed p (Token.boolean v) c k = allowed (may_begin p) (Token.boolean v) after_value k
placed p Token.null c k = allowed (may_begin p) Token.null after_value k
placed p t c k = λ h. absurd (false≢true h)

-- the rules for commas and colons stop at no lexeme of good tokens
all_good : (p : Place) (ls : List Lexeme) → are_good (punctuate p ls) ≡ true → no_bad ls ≡ true
unfolding punctuate
all_good p [] h = refl
all_good p (token t ∷ ls) h = let l = placed p t (begins_colon ls) (λ n. punctuate n ls) h in and_from (is_good t) (no_bad ls) l.0 (all_good l.1 ls l.2)
all_good after_value (comma ∷ ls) h = all_good after_comma ls h
all_good after_key (colon ∷ ls) h = all_good fresh ls h
all_good p ls h = absurd (false≢true h)

module _ (ks : List Lexeme) where
  same_colon : (ls : List Lexeme) → begins_colon (ls ++ token Token.end_object ∷ comma ∷ ks) ≡ begins_colon (ls ++ token Token.end_object ∷ [])
  same_colon [] = refl
  same_colon (token t ∷ ls) = refl
  same_colon (comma ∷ ls) = refl
  same_colon (colon ∷ ls) = refl

  closing : (b : Bool) → are_good (if_allowed b Token.end_object (λ n. punctuate n []) after_value) ≡ true
      → if_allowed b Token.end_object (λ n. punctuate n (comma ∷ ks)) after_value ≡ if_allowed b Token.end_object (λ n. punctuate n []) after_value ++ punctuate after_comma ks
  unfolding punctuate
  closing true h = refl
  closing false h = absurd (false≢true h)

  joined : (p : Place) (ls : List Lexeme) → are_good (punctuate p (ls ++ token Token.end_object ∷ [])) ≡ true
      → punctuate p (ls ++ token Token.end_object ∷ comma ∷ ks) ≡ punctuate p (ls ++ token Token.end_object ∷ []) ++ punctuate after_comma ks
  unfolding punctuate
  joined p [] h = closing (may_close p) h
  joined p (token t ∷ ls) h =
      let long = λ (n : Place). punctuate n (ls ++ token Token.end_object ∷ comma ∷ ks) in
      let l = placed p t (begins_colon (ls ++ token Token.end_object ∷ [])) (λ n. punctuate n (ls ++ token Token.end_object ∷ [])) h in
      ap (λ c. place_token p t c long) (same_colon ls) ∙ l.3 long (punctuate after_comma ks) (joined l.1 ls l.2)
  joined after_value (comma ∷ ls) h = joined after_comma ls h
  joined after_key (colon ∷ ls) h = joined fresh ls h
  joined p ls h = absurd (false≢true h)

-- Where the tokens up to a closing brace are good, a comma after it begins the tokens of what follows.
pub cut_tokens : (a b : List ℕ) → are_good (tokens (a ++ 125 ∷ [])) ≡ true → tokens (a ++ 125 ∷ 44 ∷ b) ≡ tokens (a ++ 125 ∷ []) ++ tokens_after_comma b
unfolding lex
cut_tokens a b good =
    let c = cut between a refl (all_good fresh (lex between (a ++ 125 ∷ [])) good) in
    ap (punctuate fresh) (c.1 (44 ∷ b)) ∙ joined (lex between b) fresh c.0 (ap (λ ls. are_good (punctuate fresh ls)) (sym (c.1 [])) ∙ good)
    ∙ ap (λ ls. punctuate fresh ls ++ tokens_after_comma b) (sym (c.1 []))

opened : (t : Token) (c : Bool) (k : Place → List Token) (ts : List Token) → place_token fresh t c k ≡ Token.begin_object ∷ ts → place_token after_comma t c k ≡ Token.begin_object ∷ ts
opened Token.end_object c k ts e = absurd (cc)
opened Token.end_array c k ts e = absurd (cc)
opened (Token.string s) true k ts e = e
opened t c k ts e = e

opened_lexemes : (ls : List Lexeme) (ts : List Token) → punctuate fresh ls ≡ Token.begin_object ∷ ts → punctuate after_comma ls ≡ Token.begin_object ∷ ts
unfolding punctuate
opened_lexemes [] ts e = absurd (cc)
opened_lexemes (token t ∷ ls) ts e = opened t (begins_colon ls) (λ n. punctuate n ls) ts e
opened_lexemes (l ∷ ls) ts e = e

-- A text that begins with an open brace has the same tokens after a comma.
pub opened_after_comma : (text : List ℕ) (ts : List Token) → tokens text ≡ Token.begin_object ∷ ts → tokens_after_comma text ≡ Token.begin_object ∷ ts
opened_after_comma text ts e = opened_lexemes (lex between text) ts e
