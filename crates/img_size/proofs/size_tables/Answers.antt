-- `size_tables` meets its contract.
use Rattle.std.proofs.Common.{rules, arith, refl, ◌∙◌}
use Rattle.img_model.specs.Columns.{columns_in}
use Rattle.img_size.proofs.Going.{none_sized, all_sized, has_room, error_back, error_low, one_sized}
use Rattle.img_size.proofs.size_tables.Goals as goal

pub loop-d-init : goal.loop-d-init
loop-d-init c =
    let a = c.args in (
      none_sized (columns_in a.request) c.requires.sizeable a.sized.now a.order.now,
      refl,
      (refl, refl, refl, refl, refl, refl),
    )

pub size_directory-requires-clause-places : goal.size_directory-requires-clause-places
size_directory-requires-clause-places c =
    let l = c.loop-d in
    has_room (columns_in c.args.request) c.requires.sizeable c.args.sized.now l.sized l.order l.at l.d l.invariant.0
    c.loop-d-test.true _ (omega (arith, c.requires.roomy.o))

pub in_list-requires : goal.in_list-requires
in_list-requires c =
    let l = c.loop-d in
    error_low (columns_in c.args.request) c.requires.sizeable c.args.sized.now l.sized l.order l.at l.d l.invariant.0
    c.loop-d-test.true c.in-Err.e c.in-Err.ensures.table

pub returns-in-Err-clause-sizes : goal.returns-in-Err-clause-sizes
returns-in-Err-clause-sizes c =
    let l = c.loop-d in
    error_back (columns_in c.args.request) c.requires.sizeable c.args.sized.now l.sized l.order l.at l.d l.invariant.0
    c.loop-d-test.true c.in-Err.e _ c.in-Err.ensures.table c.in_list.ensures

pub overflow_add-at : goal.overflow_add-at
overflow_add-at c =
    let l = c.loop-d in
    omega (
      arith,
      has_room (columns_in c.args.request) c.requires.sizeable c.args.sized.now l.sized l.order l.at l.d l.invariant.0
          c.loop-d-test.true _ c.requires.roomy.o,
    )

pub loop-d-preserved : goal.loop-d-preserved
loop-d-preserved c =
    let l = c.loop-d in
    let t = c.size_directory.ensures in (
      one_sized (columns_in c.args.request) c.requires.sizeable c.args.sized.now l.sized l.order l.at l.d l.invariant.0
          c.loop-d-test.true c.in-Ok.size c.size_directory.new.order t.earlier
          (omega (arith, c.requires.roomy.sizes_are, l.auto.sized)) c.in-Ok.ensures.table,
      t.places ∙ l.invariant.1,
      search rules,
    )

pub returns-clause-sizes : goal.returns-clause-sizes
returns-clause-sizes c =
    let l = c.loop-d in
    all_sized (columns_in c.args.request) c.requires.sizeable c.args.sized.now l.sized l.order l.at l.d l.invariant.0
    c.loop-d-test.false
