use Rattle.std.proofs.Common.{[], get_or, sym, ◌∙◌}
use Rattle.std.specs.Prelude.{bytes_eq}
use Rattle.std.proofs.lemmas.Cmp.{nat_list_eq_equiv}
use Rattle.std.proofs.lemmas.List.Quantifiers.{position-Some}
use Rattle.std.proofs.lemmas.Map.Views.{list_any-from_Contains}
use Rattle.std.proofs.lemmas.Slice.Eq.{bytes_eq-Decides}
use Rattle.channel_map.proofs.nodes.place_of.Goals as goal

pub unwrap-requires : goal.unwrap-requires
unwrap-requires c = c.get_index_of.ensures.found ∙ list_any-from_Contains nat_list_eq_equiv c.args.node.now c.args.nodes.now.keys c.requires.among

pub returns-clause-is : goal.returns-clause-is
returns-clause-is c =
    let keys = c.args.nodes.now.keys in
    let node = c.args.node.now in
    let at = position-Some (bytes_eq node) keys c.unwrap.result [] (sym c.get_index_of.ensures.index ∙ c.unwrap.ensures) in
    sym ((bytes_eq-Decides node (get_or keys c.unwrap.result [])).0 at.1)
