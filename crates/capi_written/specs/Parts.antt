-- The refusals of writing that carry a value, and the numbers that stand for the parts of what each operation of
-- writing gives. Assumes nothing.
use Rattle.std.specs.Prelude.{ℕ, List, [], ◌∷◌}
use Rattle.layout_sector.specs.Counter.{Run}
use Rattle.dirtab_add.specs.Add.{Grown}
use Rattle.table_model.specs.Table.{Placing}

-- the refusals that carry the number of an entry in its list (a 6 for a column that is too short carries none)
abbrev pub of_entry : List ℕ
of_entry = 1 ∷ 2 ∷ 3 ∷ 4 ∷ 5 ∷ 6 ∷ []

-- the refusals of a plan that carry the place of an entry in the list, and those that carry a directory's number
abbrev pub of_planned : List ℕ
of_planned = 1 ∷ 2 ∷ 3 ∷ 4 ∷ 5 ∷ 6 ∷ 10 ∷ []

abbrev pub of_directory : List ℕ
of_directory = 7 ∷ 8 ∷ []

-- the parts of what each operation gives
abbrev pub grown_root : Grown → ℕ
grown_root g = g.root

abbrev pub grown_count : Grown → ℕ
grown_count g = g.count

abbrev pub size_of_table : Placing → ℕ
size_of_table p = p.size

abbrev pub next_free : Placing → ℕ
next_free p = p.free

abbrev pub run_start : Run → ℕ
run_start r = r.start

abbrev pub run_free : Run → ℕ
run_free r = r.free
