use Rattle.std.proofs.Common.{length}
use Rattle.std.proofs.lemmas.List.{take_rest}
use Rattle.port_io.proofs.Pieces.{front_and_rest, none_at_the_end}
use Rattle.port_io.proofs.mem_source.MemSourceSource.read.Goals as goal

pub returns-clause-bytes : goal.returns-clause-bytes
returns-clause-bytes c =
    let bytes = rw (c.deref-2.ensures.value, take_rest) at c.copy_front-count.ensures.bytes in
    let count = rw (c.deref-2.ensures.value, take_rest) at c.copy_front-count.ensures.count in
    let held = c.args.self.now.bytes.items in
    let at = c.args.self.now.at in
    let n = c.copy_front-count.result in
    (front_and_rest held at n _ bytes, λ none room. none_at_the_end held at n c.args.self.now.piece (length c.copy_front-count.new.into) count c.args.self.now.moves room none)
