-- The name that a table has of an entry is as long as the entry's given name: a writer copies its bytes. Assumes nothing.
use Prim.Native.Nat.{ℕ, ◌+◌, ◌≤◌}
use native.Mathlib.Omega.{arith}
use mathlib.Core.Path.{◌≡◌, ap, ◌∙◌}
use mathlib.Core.List.{List}
use lib.ListN.{length, drop, length-drop}
use lib.Seq.{length-take-le}
use Rattle.name_role.proofs.Roles.{stored_is}
use Rattle.dirtab_entry.specs.declared.Entry as given
use Rattle.dirtab_entry.specs.Entry.{name_in}
use Rattle.table_model.specs.Entry.{entry_for}

pub name_long : (names : List ℕ) (e : given.Entry) → e.start + e.len ≤ length names → length (entry_for names e).name ≡ e.len
name_long names e h = ap length (stored_is (name_in names e)) ∙ length-take-le e.len (drop e.start names) (omega (arith, length-drop e.start names))
