-- Parts of a list: how they begin and end, and that a change elsewhere keeps them.
use Rattle.std.proofs.Common.{◌≡◌, ℕ, ◌+◌, ◌-◌, ◌≤◌, List, ◌++◌, length, take, drop, slice_range, sym, ap, ◌∙◌, arith}
use Rattle.std.specs.List.{copy_within}
use Rattle.std.proofs.lemmas.List.{drop-take, drop-drop, length-take, length-drop, take-take, take-append-le, length-take-le}
use Rattle.std.proofs.lemmas.Slice.{between_is}
use lib.Seq.{take-add}

pub length-part : (xs : List ℕ) (start end : ℕ) → end ≤ length xs → length (slice_range xs start end) ≡ end - start
length-part xs start end within =
    omega (arith, length-take (end - start) (drop start xs), length-drop start xs)

-- a part that ends later
pub further : (xs : List ℕ) (start end n : ℕ) → start ≤ end → slice_range xs start (end + n) ≡ slice_range xs start end ++ take n (drop end xs)
further xs start end n ordered =
    let sum : end + n - start ≡ (end - start) + n = omega arith in
    let back : start + (end - start) ≡ end = omega arith in
    ap (λ j. take j (drop start xs)) sum ∙ take-add (end - start) n (drop start xs)
    ∙ ap (λ (ys : List ℕ). slice_range xs start end ++ take n ys) (drop-drop (end - start) start xs ∙ ap (λ j. drop j xs) back)

-- a part that begins later
pub consumed : (xs : List ℕ) (start end count : ℕ) → start + count ≤ end
    → slice_range xs (start + count) end ≡ drop count (slice_range xs start end)
consumed xs start end count inside =
    let parts : end - start ≡ count + (end - (start + count)) = omega arith in
    sym (ap (λ j. drop count (take j (drop start xs))) parts ∙ drop-take count _ (drop start xs)
    ∙ ap (take (end - (start + count))) (drop-drop count start xs))

-- the start of a part
pub front_of : (xs : List ℕ) (start end n : ℕ) → start + n ≤ end → slice_range xs start (start + n) ≡ take n (slice_range xs start end)
front_of xs start end n inside =
    let len : start + n - start ≡ n = omega arith in
    let below : n ≤ end - start = omega arith in
    ap (λ j. take j (drop start xs)) len ∙ sym (take-take n (end - start) (drop start xs) below)

-- a part of a front that stays the same
pub same_below : (xs ys : List ℕ) (at start end : ℕ) → take at ys ≡ take at xs → end ≤ at → slice_range ys start end ≡ slice_range xs start end
same_below xs ys at start end same below =
    between_is ys start end ∙ ap (drop start) (sym (take-take end at ys below) ∙ ap (take end) same ∙ take-take end at xs below)
    ∙ sym (between_is xs start end)

-- a part that moved to the start with everything from `from` to `to`
pub moved : (xs : List ℕ) (from to start end : ℕ) → from ≤ start → start ≤ end → end ≤ to → to ≤ length xs
    → slice_range (copy_within xs from to 0) (start - from) (end - from) ≡ slice_range xs start end
moved xs from to start end first ordered last within =
    let front = length-take-le (to - from) (drop from xs) (omega (arith, length-drop from xs)) in
    let inside : end - from ≤ length (take (to - from) (drop from xs)) = omega (arith, front) in
    let below : end - from ≤ to - from = omega arith in
    let back : from + (start - from) ≡ start = omega arith in
    let size : end - from - (start - from) ≡ end - start = omega arith in
    between_is (copy_within xs from to 0) (start - from) (end - from)
    ∙ ap (drop (start - from)) (take-append-le (end - from) (take (to - from) (drop from xs)) (drop (0 + (to - from)) xs) inside ∙ take-take (end - from) (to - from) (drop from xs) below)
    ∙ sym (between_is (drop from xs) (start - from) (end - from))
    ∙ ap (λ j. take j (drop (start - from) (drop from xs))) size
    ∙ ap (take (end - start)) (drop-drop (start - from) from xs ∙ ap (λ j. drop j xs) back)
