-- `put_into` meets its contract: `attach` fills the hole at the place (`new_ready`), and `rise` makes the climb from it, which is `ins` (`inserted`).
use Rattle.std.proofs.Common.{sym, subst}
use Rattle.avl_model.specs.Lists.{Lists}
use Rattle.avl_model.specs.Lent.{lists_of}
use Rattle.avl_model.specs.inner.Held.{Ready}
use Rattle.avl_model.proofs.Adding.{new_ready, inserted}
use Rattle.avl_insert.proofs.put_into.Goals as goal

pub rise-requires-clause-ready : goal.rise-requires-clause-ready
rise-requires-clause-ready c =
    let w = c.requires in
    subst (λ (T : Lists). Ready T c.args.new) (sym c.attach.ensures.attached) (new_ready (lists_of c.args.links.now) c.args.new w.arena w.by c.args.place w.free)

pub returns-clause-grown : goal.returns-clause-grown
returns-clause-grown c = λ w.
    inserted (lists_of c.args.links.now) c.args.new w.arena w.by c.args.place w.free
    c.attach.ensures.attached c.rise.ensures.balanced
