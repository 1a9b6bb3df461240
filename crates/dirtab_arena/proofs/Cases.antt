-- Small arenas, tested by computing: the test neither takes all nor refuses all.
use Rattle.std.proofs.Common.{ℕ, ◌≡◌, refl, Bool, true, false, [], ◌∷◌}
use Rattle.dirtab_entry.specs.Entry.{any_bad, check_of}
use Rattle.avl_model.specs.Seek.{tree_at}
use Rattle.avl_arena.specs.Test.{places, inside, between, cell_ok, whole_tree, holds_tree}
use Rattle.dirtab_arena.specs.Arena.{columns, arena, is_taken, is_arena}

-- nothing held, in no columns
empty : is_arena (arena 65535 0 (columns [] [] [] [] [] [] [] []) []) ≡ true
unfolding is_arena holds_tree whole_tree places tree_at
empty = refl

-- one entry, whose name is the byte b, of a kind and a size
abbrev one : ℕ → ℕ → ℕ → Bool
one b k z = is_arena (arena 0 1 (columns (65535 ∷ []) (65535 ∷ []) (65535 ∷ []) (1 ∷ []) (0 ∷ []) (1 ∷ []) (z ∷ []) (k ∷ [])) (b ∷ []))

good : one 97 1 4294965248 ≡ true
unfolding is_arena is_taken holds_tree whole_tree places inside between cell_ok tree_at check_of any_bad
good = refl

-- its name has a byte above 127
bad_byte : one 128 1 4294965248 ≡ false
unfolding is_arena is_taken holds_tree whole_tree places inside between cell_ok tree_at check_of any_bad
bad_byte = refl

-- it is a directory whose size cannot be rounded
too_large : one 97 1 4294965249 ≡ false
unfolding is_arena is_taken holds_tree whole_tree places inside between cell_ok tree_at check_of any_bad
too_large = refl

-- the column of kinds has no place for it
no_kind : is_arena (arena 0 1 (columns (65535 ∷ []) (65535 ∷ []) (65535 ∷ []) (1 ∷ []) (0 ∷ []) (1 ∷ []) (5 ∷ []) []) (97 ∷ [])) ≡ false
unfolding is_arena
no_kind = refl
