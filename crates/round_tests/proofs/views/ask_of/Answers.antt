use Rattle.std.proofs.Common.{arith, sym, subst, ap, length}
use Rattle.std.specs.Prelude.{All}
use Rattle.std.proofs.lemmas.List.Elements.{All-nil}
use Rattle.std.specs.List.{IsDistinct}
use Rattle.std.specs.Cmp.Lexicographic.{other_text}
use Rattle.layer.specs.Ask.{IsGoodAsked, same_asked}
use Rattle.round_tests.proofs.Ascending.{no_layers}
use Rattle.round_tests.proofs.views.ask_of.Goals as goal

pub returns : goal.returns
returns c = record {
  apart = other_text c.args.source c.args.destination c.if-eq.ensures;
  some = omega (arith, c.if-row-lt1.false);
  most = omega (arith, c.if-row-gt-MAX.false);
  few_layers = let e = ap length c.new.ensures in omega (arith, e);
  names = subst (All IsGoodAsked) (sym c.new.ensures) (All-nil IsGoodAsked);
  distinct = subst (IsDistinct same_asked) (sym c.new.ensures) no_layers;
  fees = omega (arith, c.if-row-gt-MAX-2.false);
  some_parts = omega (arith, c.if-row-lt1-2.false);
  few_parts = omega (arith, c.if-row-gt100.false);
}
