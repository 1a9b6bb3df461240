-- `comes_after` meets its contract: two names that stand in their places are compared (`compared`).
use Rattle.std.proofs.Common.{◌≡◌, ◌-◌, true, refl, sym, ◌∙◌, true≢false, is_gt}
use Rattle.std.specs.declared.cmp.Ordering.{Ordering}
use Rattle.std.specs.declared.cmp.Ordering.TheVariants.{Less, Equal, Greater}
use Rattle.avl_model.specs.Lent.{names_of}
use Rattle.dirtab_grow.proofs.Rightmost.{compared}
use Rattle.dirtab_grow.proofs.comes_after.Goals as goal

greater : (o : Ordering) → is_gt o ≡ true → o ≡ Greater
greater Less e = absurd (true≢false (sym e))
greater Equal e = absurd (true≢false (sym e))
greater Greater e = refl

pub returns-then-has_name-2 : goal.returns-then-has_name-2
returns-then-has_name-2 c = λ e. compared (names_of c.args.names) c.args.at (c.args.at - 1) c.node_name.ensures.named
    c.node_name-then-has_name-2.ensures.named c.compare.ensures (greater c.compare.result (sym c.is_gt.ensures ∙ e))
