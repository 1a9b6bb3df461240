-- The arena test: whether the first n places of the columns hold one ordered, balanced tree of n nodes, parents and
-- heights true, each name inside the lent bytes. It is a test on the tree that the links hold, to a depth that no
-- balanced tree of at most 65,535 nodes passes; for every content of the columns. proofs/Sound.antt and
-- proofs/Complete.antt say that it is `HeldTree`. Assumes nothing.
use Rattle.std.specs.Prelude.{ℕ, zero, suc, ◌+◌, max, Bool, true, ◌&&◌, ◌||◌, List, length, get_or, take, leb, eqb}
use Rattle.avl_model.specs.Lists.{Lists, lists}
use Rattle.avl_model.specs.Names.{Names, names_in, by_name, is_less}
use Rattle.avl_model.specs.Tree.{Tree, leaf, node, none, top, ht}
use Rattle.avl_model.specs.Laws.{size}
use Rattle.avl_model.specs.Seek.{tree_at}

-- the first n places of the columns
abbrev pub part_of : ℕ → Lists → Lists
part_of n S = lists S.root (take n S.L) (take n S.R) (take n S.P) (take n S.H)

-- the first n names
abbrev pub part_names : ℕ → Names → Names
part_names n N = names_in N.bytes (take n N.start) (take n N.len)

-- each column has n places
unfoldable pub places : Lists → List ℕ → List ℕ → ℕ → Bool
places S start len n =
    leb n (length S.L)
    && (leb n (length S.R)
    && (leb n (length S.P) && (leb n (length S.H) && (leb n (length start) && leb n (length len)))))

-- a test of each number below n
abbrev pub every : (ℕ → Bool) → ℕ → Bool
every f zero = true
every f (suc n) = every f n && f n

-- the name of i lies inside the lent bytes
unfoldable pub inside : Names → ℕ → Bool
inside N i = leb (get_or N.start i 0 + get_or N.len i 0) (length N.bytes)

-- by name, i comes after lo and before hi, where those are among the n nodes
unfoldable pub between : Names → ℕ → ℕ → ℕ → ℕ → Bool
between N n lo hi i = (leb n lo || is_less (by_name N lo i)) && (leb n hi || is_less (by_name N i hi))

-- the links, the parent and the height of i, over subtrees whose roots are a and b and whose heights are x and y;
-- and its balance
unfoldable pub cell_ok : Lists → ℕ → ℕ → ℕ → ℕ → ℕ → ℕ → Bool
cell_ok S i up a b x y =
    eqb (get_or S.L i 0) a && (eqb (get_or S.R i 0) b && (eqb (get_or S.P i 0) up
    && (eqb (get_or S.H i 0) (max x y + 1) && (leb x (y + 1) && leb y (x + 1)))))

-- each node of a tree that hangs between lo and hi, below up
abbrev pub ok_tree : Lists → Names → ℕ → ℕ → ℕ → ℕ → Tree → Bool
ok_tree S N n lo hi up leaf = true
ok_tree S N n lo hi up (node l i r) =
    between N n lo hi i && (ok_tree S N n lo i i l
    && (ok_tree S N n i hi i r && cell_ok S i up (top l) (top r) (ht l) (ht r)))

-- the tree that the links hold
abbrev pub tree_of : Lists → Tree
tree_of S = tree_at 22 S.L S.R S.root

-- the tree that the links of the first n places hold
unfoldable pub decoded : Lists → ℕ → Tree
decoded S n = tree_of (part_of n S)

-- t is the tree of n nodes that the columns hold
abbrev pub is_whole : Lists → Names → ℕ → Tree → Bool
is_whole S N n t = ok_tree S N n none none none t && (eqb (top t) S.root && eqb (size t) n)

-- the columns of n places hold one tree of all the places
unfoldable pub whole_tree : Lists → Names → ℕ → Bool
whole_tree S N n = is_whole S N n (tree_of S)

-- the first n places of the columns do. An empty arena has no root.
unfoldable pub holds_tree : Lists → Names → ℕ → Bool
holds_tree S N n = places S N.start N.len n
    && (every (inside (part_names n N)) n && whole_tree (part_of n S) (part_names n N) n)
