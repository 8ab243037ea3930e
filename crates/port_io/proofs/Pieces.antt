-- A piece and the bytes that it was taken from.
use Rattle.std.proofs.Common.{◌≡◌, ℕ, ◌+◌, ◌-◌, ◌≤◌, ◌<◌, List, [], ◌++◌, length, take, drop, min, arith, sym}
use Rattle.std.proofs.lemmas.List.{take-append-drop, drop-drop, drop_all, length-drop}

-- the bytes left are a piece and then the rest
pub front_and_rest : (bytes : List ℕ) (at n : ℕ) (front : List ℕ) → front ≡ take n (drop at bytes) → drop at bytes ≡ front ++ drop (at + n) bytes
front_and_rest bytes at n front is =
    let rest : drop n (drop at bytes) ≡ drop (at + n) bytes = drop-drop n at bytes in
    rw (is, ← rest) (sym (take-append-drop n (drop at bytes)))

-- if neither the piece size nor the room is 0, a piece is empty only at the end
pub none_at_the_end : (bytes : List ℕ) (at n most room : ℕ) → n ≡ min most (min room (length (drop at bytes))) → 0 < most → 0 < room → n ≡ 0 → drop (at + n) bytes ≡ []
none_at_the_end bytes at n most room is some_most some_room none =
    let len : length (drop at bytes) ≡ length bytes - at = length-drop at bytes in
    let few : length bytes ≤ at + n = omega (arith, is, none, len, some_most, some_room) in
    drop_all (at + n) bytes few
