-- `write_listed` meets its contract: each way out is one of what the table is, or a refusal.
use Rattle.std.proofs.Common.{◌≤◌, refl, ◌∙◌, length, arith}
use Rattle.dirtab_held.specs.inner.Held.{cols_in}
use Rattle.dirtab.proofs.Listed.{rounded_is, told_many, told_over, place_asks, count_asks, too_many, too_far, too_small, write_asks, table_given, table_written}
use Rattle.dirtab.proofs.write_listed.Goals as goal

pub place_entries-requires : goal.place_entries-requires
place_entries-requires c =
    place_asks c.args.order.now (cols_in c.args.branches c.args.entries) (length c.args.place.now) 0 (omega arith) c.requires.0 c.requires.1

pub count_sectors-requires : goal.count_sectors-requires
count_sectors-requires c =
    count_asks c.args.order.now (cols_in c.args.branches c.args.entries) (length c.args.place.now) 0 (omega arith) c.requires.0 c.requires.1

pub returns-in_err-end : goal.returns-in_err-end
returns-in_err-end c =
    let low : c.args.first.0 ≤ 4294967295 = omega arith in record {
      answer = λ t h. told_many _ c.from_residual.ensures.1
          ∙ (too_many c.args.order.now (cols_in c.args.branches c.args.entries) (length c.args.place.now) c.args.first.0 low t h c.args.out.now c.in_err-end.ensures.answer).0;
      out = λ t h. (too_many c.args.order.now (cols_in c.args.branches c.args.entries) (length c.args.place.now) c.args.first.0 low t h c.args.out.now c.in_err-end.ensures.answer).1;
    }

pub returns-in_err-free : goal.returns-in_err-free
returns-in_err-free c =
    let low : c.args.first.0 ≤ 4294967295 = omega arith in record {
      answer = λ t h. told_over _ c.from_residual-in_err-free.ensures.1
          ∙ (too_far c.args.order.now (cols_in c.args.branches c.args.entries) (length c.args.place.now) c.args.first.0 low t h c.args.out.now _ c.in_ok-end.ensures.answer c.in_err-free.ensures.answer).0;
      out = λ t h. (too_far c.args.order.now (cols_in c.args.branches c.args.entries) (length c.args.place.now) c.args.first.0 low t h c.args.out.now _ c.in_ok-end.ensures.answer c.in_err-free.ensures.answer).1;
    }

pub returns-then-out-n : goal.returns-then-out-n
returns-then-out-n c =
    let low : c.args.first.0 ≤ 4294967295 = omega arith in
    let n = c.next_multiple_of-n.ensures in
    let en = rounded_is _ _ n.lower_bound n.upper_bound n.multiple in record {
      answer = λ t h. (too_small c.args.order.now (cols_in c.args.branches c.args.entries) (length c.args.place.now) c.args.first.0 low t h c.args.out.now _ c.in_ok-end.ensures.answer c.in_ok-free.ensures.words _ c.in_ok-free.ensures.answer _ _
          c.size_from-size.ensures en c.if-out-n.true).0;
      out = λ t h. (too_small c.args.order.now (cols_in c.args.branches c.args.entries) (length c.args.place.now) c.args.first.0 low t h c.args.out.now _ c.in_ok-end.ensures.answer c.in_ok-free.ensures.words _ c.in_ok-free.ensures.answer _ _
          c.size_from-size.ensures en c.if-out-n.true).1;
    }

pub write_table-requires : goal.write_table-requires
write_table-requires c =
    let low : c.args.first.0 ≤ 4294967295 = omega arith in
    let n = c.next_multiple_of-n.ensures in
    write_asks c.args.order.now (cols_in c.args.branches c.args.entries) (length c.args.place.now) c.args.first.0 low c.requires.0 c.requires.1 c.args.out.now _ c.in_ok-end.ensures.answer c.in_ok-free.ensures.words _ c.in_ok-free.ensures.answer _ _
    c.size_from-size.ensures (rounded_is _ _ n.lower_bound n.upper_bound n.multiple) c.if-out-n.false c.args.place.now _ c.place_entries.ensures.place refl

pub returns : goal.returns
returns c =
    let low : c.args.first.0 ≤ 4294967295 = omega arith in
    let n = c.next_multiple_of-n.ensures in
    let en = rounded_is _ _ n.lower_bound n.upper_bound n.multiple in record {
      answer = λ t h. table_given c.args.order.now (cols_in c.args.branches c.args.entries) (length c.args.place.now) c.args.first.0 low t h c.args.out.now _ c.in_ok-end.ensures.answer c.in_ok-free.ensures.words _ c.in_ok-free.ensures.answer _ _
          c.size_from-size.ensures en c.if-out-n.false c.args.place.now _ c.place_entries.ensures.place refl;
      out = λ t h. table_written c.args.order.now (cols_in c.args.branches c.args.entries) (length c.args.place.now) c.args.first.0 low t h c.args.out.now _ c.in_ok-end.ensures.answer c.in_ok-free.ensures.words _ c.in_ok-free.ensures.answer _ _
          c.size_from-size.ensures en c.if-out-n.false c.args.place.now _ c.place_entries.ensures.place refl _ c.write_table.ensures;
    }
