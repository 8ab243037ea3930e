-- The tokens that were written, one after another.
use Rattle.workload.proofs.ask.write_members.Goals as goal

pub returns : goal.returns
returns c =
    rw (
      c.into_inner.ensures.items,
      c.in_ok-end_object.ensures.ok,
      c.in_ok-write_string-2.ensures.tokens,
      c.in_ok-write_number-5.ensures.tokens,
      c.in_ok-write_number-4.ensures.tokens,
      c.in_ok-write_number-3.ensures.tokens,
      c.in_ok-write_no_items.ensures.tokens,
      c.in_ok-write_number-2.ensures.tokens,
      c.in_ok-write_string.ensures.tokens,
      c.in_ok-write_number.ensures.tokens,
      c.in_ok-begin_object.ensures.ok,
      c.new-out.ensures.tokens,
      c.in_ok-end_object.ensures.room.0,
      c.in_ok-write_string-2.ensures.before,
      c.in_ok-write_number-5.ensures.before,
      c.in_ok-write_number-4.ensures.before,
      c.in_ok-write_number-3.ensures.before,
      c.in_ok-write_no_items.ensures.before,
      c.in_ok-write_number-2.ensures.before,
      c.in_ok-write_string.ensures.before,
      c.in_ok-write_number.ensures.before,
      c.in_ok-begin_object.ensures.room.0,
      c.new-out.ensures.before,
    )
