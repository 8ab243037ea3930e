use Rattle.std.proofs.Common.{◌≡◌, ◌++◌, ◌∷◌, [], List, ℕ, true, sym, subst, ap, ◌∙◌, arith}
use Rattle.std.specs.List.{IsDistinct}
use Rattle.std.proofs.lemmas.List.Elements.{All-from_recursion}
use Rattle.layer.specs.Name.{is_good_name}
use Rattle.layer.specs.Ask.{IsGoodAsked, same_asked}
use Rattle.layer.specs.declared.ask.Asked.{Asked}
use Rattle.layer.specs.declared.ask.Asked.TheVariants.{Named}
use Rattle.view_bench.proofs.asks.ask.Goals as goal

distinct_one : (a : Asked) → IsDistinct same_asked (a ∷ [])
unfolding IsDistinct
distinct_one a = (tt, tt)

pub returns-in-Ok-push-clause-good : goal.returns-in-Ok-push-clause-good
returns-in-Ok-push-clause-good c =
    let name = c.in-Ok.name in
    let list : c.push.new.self ≡ Named name ∷ [] = c.in-Ok-push.ensures.ok ∙ ap (λ (asked : List Asked). asked ++ Named name ∷ []) c.new-asked.ensures in
    let good : is_good_name name ≡ true = subst (λ (text : List ℕ). is_good_name text ≡ true) (sym c.in-Ok.ensures.ok.0) c.in-Ok.ensures.ok.1 in
    record {
      apart = c.requires;
      some = omega arith;
      most = omega arith;
      few_layers = rw list (omega arith);
      names = rw list (All-from_recursion IsGoodAsked (Named name ∷ []) (good, tt));
      distinct = rw list (distinct_one (Named name));
      fees = omega arith;
      some_parts = omega arith;
      few_parts = omega arith;
    }
