-- `is_arena` meets its contract: where the tree is held, each entry has its places (`places_of`).
use Rattle.std.proofs.Common.{◌∙◌, ap, sym, arith, length, List, ℕ}
use Rattle.std.proofs.lemmas.Grind.{common_steps}
use Rattle.avl_model.specs.Names.{Names}
use Rattle.dirtab_arena.proofs.Ways.{places_of}
use Rattle.dirtab_arena.proofs.is_arena.Goals as goal
use Rattle.dirtab_arena.proofs.is_arena.Goals.{then-n-arena, else-n-arena, then-n-arena-2, else-n-arena-2}

pub are_taken-requires : goal.are_taken-requires
are_taken-requires c = λ i h.
    elim c.if-n-arena-2.branch [
      | then-n-arena-2 w ↦
          let p = places_of _ _ _ _ w.is_tree.ensures (sym w.value-is ∙ c.if-is_tree.true) in
          let q = w.names.ensures ∙ sym c.entries.ensures.names in
          record {
            start = omega (arith, p.start, ap (λ (N : Names). length N.start) q);
            len = omega (arith, p.len, ap (λ (N : Names). length N.len) q);
            size = grind (arith, common_steps, w.if-n-arena-2.true, ap (λ (x : List ℕ). length x) c.entries.ensures.size);
            kind = grind (arith, common_steps, w.if-n-arena-2.true, ap (λ (x : List ℕ). length x) c.entries.ensures.kind);
          }
      | else-n-arena-2 w ↦ absurd (cc)
    ]
