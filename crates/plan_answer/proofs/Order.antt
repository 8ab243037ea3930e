-- A member whose key is below the others comes first.
use Rattle.std.proofs.Common.{◌≡◌, ℕ, List, Option, Some, None, refl}
use Rattle.std.specs.Prelude.{codes}
use Rattle.std.proofs.lemmas.Cmp.{nat_list_cmp_total}
use Rattle.serde_json.specs.Data.{Data, Members, member, no_members, put, string}
use Rattle.plan_answer.specs.Order.{IsBelow, IsBefore}
use Rattle.plan_answer.specs.Records.{member_if}

-- a member with a lower key is put first
pub put_before : (key : List ℕ) (value : Data) (others : Members) → IsBefore key others → put key value others ≡ member key value others
unfolding IsBefore
put_before key value no_members before = refl
put_before key value (member other first rest) before = rw before refl

-- and a key below it is below all of them
pub before_put : (lower key : List ℕ) (value : Data) (others : Members) → IsBelow lower key → IsBefore key others → IsBefore lower (put key value others)
unfolding IsBefore
before_put lower key value others below before = rw (put_before key value others before) below

-- a lower key is below the same members
pub lower_before : (lower key : List ℕ) (others : Members) → IsBelow lower key → IsBefore key others → IsBefore lower others
unfolding IsBefore
lower_before lower key no_members below before = tt
lower_before lower key (member other first rest) below before = nat_list_cmp_total.trans lower key other below before

-- the place comes before a certificate, and before what comes after one
pub place_before : (value : Data) (given : Option (List ℕ)) (others : Members) → IsBefore (codes "certificate") others → put (codes "at") value (member_if (codes "certificate") string given others) ≡ member (codes "at") value (member_if (codes "certificate") string given others)
place_before value (Some text) others before = refl
place_before value None others before = put_before (codes "at") value others (lower_before (codes "at") (codes "certificate") others refl before)
