use Rattle.plan_base.proofs.Ids.{written_dir}
use Rattle.plan_base.proofs.channel_id.Dir.write.Goals as goal

pub returns-clause-read_back : goal.returns-clause-read_back
returns-clause-read_back c = let x = c.in_ok-push_str.ensures.bytes in
    rw (c.in_ok-push_str.ensures.bytes, c.in_ok-text.ensures.text, c.side_text.ensures, ← c.self.view_is)
    (written_dir (record { scid = c.self.inside.scid; side = c.self.inside.side }) c.self.invariant (rw c.in_ok-text.ensures.text at c.in_ok-text.ensures.read_back))
