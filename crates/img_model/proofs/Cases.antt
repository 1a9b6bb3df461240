-- The rule of a tree of directories at the smallest inputs. Assumes nothing.
use Prim.Native.Nat.{ℕ}
use mathlib.Core.Path.{◌≡◌, refl}
use mathlib.Core.Bool.{Bool, true, false}
use mathlib.Core.List.{List, [], ◌∷◌}
use Rattle.img_model.specs.Shares.{is_tree}

-- directories by first and count; entries by kind and value
abbrev tree : List ℕ → List ℕ → List ℕ → List ℕ → Bool
tree from share kind value = is_tree (record { from = from; share = share; start = []; len = []; kind = kind; value = value; bytes = [] })

-- a root alone, without entries and with one file of 7 bytes; and with one directory, which has a file of 1 byte
root_alone_lem : tree (0 ∷ []) (0 ∷ []) [] [] ≡ true
unfolding is_tree
root_alone_lem = refl

root_and_file : tree (0 ∷ []) (1 ∷ []) (0 ∷ []) (7 ∷ []) ≡ true
unfolding is_tree
root_and_file = refl

one_below : tree (0 ∷ 1 ∷ []) (1 ∷ 1 ∷ []) (1 ∷ 0 ∷ []) (1 ∷ 1 ∷ []) ≡ true
unfolding is_tree
one_below = refl

-- no directory; a share one past the entries
none : tree [] [] [] [] ≡ false
unfolding is_tree
none = refl

one_past : tree (0 ∷ []) (2 ∷ []) (0 ∷ []) (7 ∷ []) ≡ false
unfolding is_tree
one_past = refl

-- a directory that is named twice, or never; an entry that names its own directory, an earlier one, or none
named_twice : tree (0 ∷ 2 ∷ []) (2 ∷ 0 ∷ []) (1 ∷ 1 ∷ []) (1 ∷ 1 ∷ []) ≡ false
unfolding is_tree
named_twice = refl

never_named : tree (0 ∷ 0 ∷ []) (0 ∷ 0 ∷ []) [] [] ≡ false
unfolding is_tree
never_named = refl

names_itself : tree (0 ∷ []) (1 ∷ []) (1 ∷ []) (0 ∷ []) ≡ false
unfolding is_tree
names_itself = refl

names_earlier : tree (0 ∷ 1 ∷ []) (1 ∷ 1 ∷ []) (1 ∷ 1 ∷ []) (1 ∷ 0 ∷ []) ≡ false
unfolding is_tree
names_earlier = refl

names_no_directory : tree (0 ∷ []) (1 ∷ []) (1 ∷ []) (1 ∷ []) ≡ false
unfolding is_tree
names_no_directory = refl
