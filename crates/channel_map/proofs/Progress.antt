-- How far the tokens of a piece have been read.
use Rattle.std.proofs.Common.{◌≡◌, ℕ, option_map, option_and_then, ◌-◌, ◌<◌, ◌≤◌, List, [], ◌∷◌, ◌++◌, length, Some, None, Result, Bool, true, false, ◌&&◌, refl, sym, ap, subst, ◌∙◌, arith, append-nil, append_assoc}
use Rattle.std.specs.Prelude.{codes}
use Rattle.std.specs.Option.{option_or}
use Rattle.json.specs.Token.{Token}
use Rattle.std.proofs.lemmas.List.{length-append}
use Rattle.json.specs.Lex.{tokens}
use Rattle.json.specs.Json as json
use Rattle.json.specs.Json.{parse_map, after_end_array, items, value}
use Rattle.json.specs.Align.{is_good}
use Rattle.json.proofs.Grammar.{value_is}
use Rattle.serde_json.specs.Data.{Data, no_members, put}
use Rattle.serde_json.specs.Read.{of_json, of_items, converted, read}
use Rattle.json_pass.specs.Value.{value_as}
use Rattle.json_pass.specs.Members.{members_as}
use Rattle.json_pass.specs.Pieces.{are_good, tokens_after_comma}
use Rattle.json_pass.proofs.Cuts.{cut_tokens, opened_after_comma}
use Rattle.json_pass.proofs.OwnTokens.{own_tokens_as}
use Rattle.json_pass.proofs.Turns.{converted_some, item_read, items_over, member_read, members_over}
use Rattle.json_pass.proofs.Fronts.{as_some}
use Rattle.channel_map.specs.declared.pieces.TheConstants.{DEPTH}
use Rattle.channel_map.specs.declared.fault.Field.{Field}
use Rattle.channel_map.specs.declared.edge.Edge.{Edge}
use Rattle.channel_map.specs.Entry.{entry_of}
use Rattle.channel_map.specs.Channels.{Gathered, gathered_of, array_entries, listed_in, listed_entries}
use Rattle.channel_map.specs.Found.{with_entry, joined}
use Rattle.channel_map.specs.Pieces.{IsCut, entries_from, GoesOn, Opens}
use Rattle.channel_map.proofs.Gathering.{array_entries_as, start_parse, turn_parse, end_joined}
use Rattle.channel_map.proofs.Listing.{channels_put, of_object_as, result_in}

both : (x y z : Bool) → (x && y) ≡ true → (y ≡ true → z ≡ true) → (x && z) ≡ true
both true y z e h = h e
both false y z e h = e

are_good_append : (a b : List Token) → are_good a ≡ true → are_good b ≡ true → are_good (a ++ b) ≡ true
are_good_append [] b e f = f
are_good_append (t ∷ a) b e f = both (is_good t) (are_good a) (are_good (a ++ b)) e (λ g. are_good_append a b g f)

-- of the tokens `all`, with `old` gathered before them, those before `rest` are read, and `now` is gathered
pub record Progress (depth : ℕ) (old : Gathered) (all : List Token) (now : Gathered) (rest : List Token) : Type 0 where
  pub own : List Token
  pub parts : all ≡ own ++ rest
  pub good : are_good own ≡ true
  pub on : (n : ℕ) (more : List Token) → length (all ++ more) ≤ n → (m : ℕ) × (length (rest ++ more) ≤ m) × (entries_from depth old n (all ++ more) ≡ entries_from depth now m (rest ++ more))

pub started : (depth : ℕ) (old : Gathered) (all : List Token) → Progress depth old all old all
started depth old all = record { own = []; parts = refl; good = refl; on = λ n more enough. (n, enough, refl) }

-- what begins with a value does not begin with the end of an array
goes_on : {A : Type 0} (f : Data → A) (depth : ℕ) (ts more : List Token) (x : A) (r : List Token) → value_as f depth ts ≡ Some (x, r) → after_end_array (ts ++ more) ≡ None
goes_on f depth [] more x r e = absurd (cc (sym e ∙ ap (λ o. parse_map f (converted of_json o)) (value_is depth [])))
goes_on f depth (Token.begin_object ∷ ts) more x r e = refl
goes_on f depth (Token.end_object ∷ ts) more x r e = refl
goes_on f depth (Token.begin_array ∷ ts) more x r e = refl
goes_on f depth (Token.end_array ∷ ts) more x r e = absurd (cc (sym e ∙ ap (λ o. parse_map f (converted of_json o)) (value_is depth (Token.end_array ∷ ts))))
goes_on f depth (Token.key s ∷ ts) more x r e = refl
goes_on f depth (Token.string s ∷ ts) more x r e = refl
goes_on f depth (Token.number s ∷ ts) more x r e = refl
goes_on f depth (Token.boolean b ∷ ts) more x r e = refl
goes_on f depth (Token.null ∷ ts) more x r e = refl
goes_on f depth (Token.bad ∷ ts) more x r e = refl

-- one entry more
module _ (depth : ℕ) (old : Gathered) (all : List Token) (now : Gathered) (rest r : List Token) (entry : Result Edge Field) (before : Progress depth old all now rest)
    (read : value_as entry_of depth rest ≡ Some (entry, r)) (shorter : length r < length rest)
    (own : List Token) (parts : rest ≡ own ++ r) (good : are_good own ≡ true) (reads : (more : List Token) → value_as entry_of depth (own ++ more) ≡ Some (entry, more)) where
  more_read : (more : List Token) → value_as entry_of depth (rest ++ more) ≡ Some (entry, r ++ more)
  more_read more = ap (λ ts. value_as entry_of depth (ts ++ more)) parts ∙ ap (value_as entry_of depth) (append_assoc own r more) ∙ reads (r ++ more)

  turn : (m : ℕ) (more : List Token) → length (rest ++ more) ≤ m → entries_from depth now m (rest ++ more) ≡ entries_from depth (with_entry now entry) (m - 1) (r ++ more)
  turn m more enough =
      let some : 0 < m = omega (arith, enough, shorter, length-append rest more) in
      let d = as_some entry_of (converted of_json (value depth (rest ++ more))) entry (r ++ more) (more_read more) in
      let later = converted of_items (items (value depth) (m - 1) (r ++ more)) in
      ap (parse_map (λ ds. joined now (gathered_of ds))) (item_read (value depth) m (rest ++ more) (r ++ more) d.0 some (goes_on entry_of depth rest more entry r read) d.1)
      ∙ turn_parse now d.0 entry d.2 later

  pub one_more : Progress depth old all (with_entry now entry) r
  one_more = record {
    own = before.own ++ own;
    parts = before.parts ∙ ap (λ ts. before.own ++ ts) parts ∙ sym (append_assoc before.own own r);
    good = are_good_append before.own own before.good good;
    on = λ n more enough.
        (let done = before.on n more enough in
        (done.0 - 1, omega (arith, done.1, shorter, length-append rest more, length-append r more), done.2 ∙ turn done.0 more done.1));
  }

pub read_more : (depth : ℕ) (old : Gathered) (all : List Token) (now new : Gathered) (rest r : List Token) (entry : Result Edge Field) → Progress depth old all now rest
    → value_as entry_of depth rest ≡ Some (entry, r) → length r < length rest → new ≡ with_entry now entry → Progress depth old all new r
read_more depth old all now new rest r entry before read shorter same =
    let o = own_tokens_as entry_of depth rest r entry read in
    subst (λ g. Progress depth old all g r) (sym same) (one_more depth old all now rest r entry before read shorter o.0 o.1 o.2 o.3)

pub all_read : (depth : ℕ) (old : Gathered) (all : List Token) (now : Gathered) → Progress depth old all now [] → GoesOn depth old all now
all_read depth old all now done = record {
  good = subst (λ ts. are_good ts ≡ true) (sym (done.parts ∙ append-nil done.own)) done.good;
  on = done.on;
}

pub closed : (depth : ℕ) (old : Gathered) (all : List Token) (now : Gathered) (r : List Token) → Progress depth old all now (Token.end_array ∷ r) → (n : ℕ) → length all ≤ n → entries_from depth old n all ≡ Some (now, r)
closed depth old all now r done n enough =
    let last = done.on n [] (omega (arith, enough, length-append all [])) in
    let over = items_over (value depth) last.0 ((Token.end_array ∷ r) ++ []) (r ++ []) last.1 refl in
    ap (entries_from depth old n) (sym (append-nil all)) ∙ last.2 ∙ ap (parse_map (λ ds. joined now (gathered_of ds))) over ∙ ap (λ g. Some (g, r ++ [])) (end_joined now) ∙ ap (λ ts. Some (now, ts)) (append-nil r)

-- ---- a text and its pieces

-- the text has one key, and what has been gathered stands before the rest
pub record IsReadTo (text : List ℕ) (now : Gathered) (rest : List ℕ) : Type 0 where
  pub entries : List Token
  pub parts : tokens text ≡ Token.begin_object ∷ Token.key (codes "channels") ∷ Token.begin_array ∷ entries
  pub on : (n : ℕ) → length entries ≤ n → (m : ℕ) × (length (tokens_after_comma rest) ≤ m) × (entries_from DEPTH ([], None) n entries ≡ entries_from DEPTH now m (tokens_after_comma rest))

pub read_first_piece : (text piece rest : List ℕ) (more : List Token) (now : Gathered) → IsCut text piece rest → tokens piece ≡ Token.begin_object ∷ Token.key (codes "channels") ∷ Token.begin_array ∷ more → GoesOn DEPTH ([], None) more now → IsReadTo text now rest
read_first_piece text piece rest more now is parts done = record {
  entries = more ++ tokens_after_comma rest;
  parts = ap tokens is.whole ∙ cut_tokens is.front rest (ap are_good (ap tokens (sym is.ends) ∙ parts) ∙ done.good) ∙ ap (λ ts. ts ++ tokens_after_comma rest) (ap tokens (sym is.ends) ∙ parts);
  on = λ n enough. done.on n (tokens_after_comma rest) enough;
}

-- a piece that begins with an open brace, after a comma
opened : (rest piece more : List ℕ) → IsCut rest piece more → are_good (tokens piece) ≡ true → Opens (tokens piece) → tokens_after_comma rest ≡ tokens piece ++ tokens_after_comma more
opened rest piece more is good opens =
    let same : tokens rest ≡ tokens piece ++ tokens_after_comma more =
    ap tokens is.whole ∙ cut_tokens is.front more (ap (λ t. are_good (tokens t)) (sym is.ends) ∙ good) ∙ ap (λ t. tokens t ++ tokens_after_comma more) (sym is.ends) in
    let first = ap (λ ts. ts ++ tokens_after_comma more) opens.1 in
    opened_after_comma rest (opens.0 ++ tokens_after_comma more) (same ∙ first) ∙ sym first

pub read_next_piece : (text rest piece more : List ℕ) (old now : Gathered) → IsReadTo text old rest → IsCut rest piece more → Opens (tokens piece) → GoesOn DEPTH old (tokens piece) now → IsReadTo text now more
read_next_piece text rest piece more old now before is opens done = record {
  entries = before.entries;
  parts = before.parts;
  on = λ n enough.
      (let was = before.on n enough in
      let same = opened rest piece more is done.good opens in
      let later = done.on was.0 (tokens_after_comma more) (subst (λ ts. length ts ≤ was.0) same was.1) in
      (later.0, later.1, was.2 ∙ ap (entries_from DEPTH old was.0) same ∙ later.2));
}

-- a function of the value of a text, from all its tokens
last_value : {A : Type 0} (f : Data → A) (text : List ℕ) (x : A) → value_as f 127 (tokens text) ≡ Some (x, []) → option_map f (read text) ≡ Some x
last_value f text x e =
    let d = as_some f (converted of_json (value 127 (tokens text))) x [] e in
    let j = converted_some of_json (value 127 (tokens text)) d.0 [] d.1 in
    ap (λ o. option_map f (option_and_then of_json (option_and_then (λ p. json.if_last p.0 p.1) o))) j.1 ∙ ap (option_map f) j.2 ∙ ap Some d.2

-- the value of a text with one key, from the entries under that key
channels_read : (entries : List Token) (now : Gathered) → entries_from DEPTH ([], None) (length entries) entries ≡ Some (now, Token.end_object ∷ [])
    → members_as listed_in 126 (Token.key (codes "channels") ∷ Token.begin_array ∷ entries) ≡ Some (Some now, [])
channels_read entries now e =
    let ts = Token.begin_array ∷ entries in
    let found : value_as array_entries 126 ts ≡ Some (Some now, Token.end_object ∷ []) = array_entries_as 126 entries (omega arith) ∙ ap (parse_map Some) (start_parse (converted of_items (items (value DEPTH) (length entries) entries)) ∙ e) in
    let d = as_some array_entries (converted of_json (value 126 ts)) (Some now) (Token.end_object ∷ []) found in
    let n = length (Token.key (codes "channels") ∷ ts) in
    let ms = put (codes "channels") d.0 no_members in
    let one = member_read (value 126) no_members n (codes "channels") (Token.key (codes "channels") ∷ ts) ts (Token.end_object ∷ []) d.0 (omega arith) refl d.1 in
    let over = members_over (value 126) ms (n - 1) (Token.end_object ∷ []) [] (omega arith) refl in
    ap (parse_map listed_in) (one ∙ over) ∙ ap (λ g. Some (option_or g (result_in ms), [])) (channels_put (codes "channels") d.0 no_members refl ∙ d.2)

listed_as : (text : List ℕ) (entries : List Token) (now : Gathered) → tokens text ≡ Token.begin_object ∷ Token.key (codes "channels") ∷ Token.begin_array ∷ entries
    → entries_from DEPTH ([], None) (length entries) entries ≡ Some (now, Token.end_object ∷ []) → option_map listed_entries (read text) ≡ Some (Some now)
listed_as text entries now parts e =
    let all : value_as listed_entries 127 (tokens text) ≡ Some (Some now, []) = ap (value_as listed_entries 127) parts ∙ of_object_as listed_in 127 (Token.key (codes "channels") ∷ Token.begin_array ∷ entries) (omega arith) ∙ channels_read entries now e in
    last_value listed_entries text (Some now) all

pub read_last_piece : (text rest : List ℕ) (old now : Gathered) → IsReadTo text old rest → Opens (tokens rest)
    → ((n : ℕ) → length (tokens rest) ≤ n → entries_from DEPTH old n (tokens rest) ≡ Some (now, Token.end_object ∷ []))
    → option_map listed_entries (read text) ≡ Some (Some now)
read_last_piece text rest old now before opens done =
    let same : tokens_after_comma rest ≡ tokens rest = opened_after_comma rest opens.0 opens.1 ∙ sym opens.1 in
    let was = before.on (length before.entries) (omega arith) in
    let all = was.2 ∙ ap (entries_from DEPTH old was.0) same ∙ done was.0 (subst (λ ts. length ts ≤ was.0) same was.1) in
    listed_as text before.entries now before.parts all
