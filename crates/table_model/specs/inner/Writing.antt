-- What writing items into a buffer, one after another, leaves. Assumes nothing.
use Rattle.std.specs.Prelude.{ℕ, ◌-◌, ◌≤◌, List, [], ◌∷◌, ◌++◌, drop, replicate}
use Rattle.layout_node.specs.Header.{header_bytes}
use Rattle.table_model.specs.Entry.{Item, header_for}
use Rattle.table_model.specs.Table.{stop, bytes_from}

-- the bytes that are stored of an item: its header and its name; its padding is what a fill of 0xff left
abbrev pub stored : Item → List ℕ
stored x = header_bytes (header_for x) ++ x.entry.name

-- where items end that come after what ends at e
abbrev pub end_over : ℕ → List Item → ℕ
end_over e [] = e
end_over e (x ∷ xs) = end_over (stop x) xs

-- a buffer d with items written into its first n bytes, the rest of which are 0xff
unfoldable pub written_over : ℕ → List Item → List ℕ → List ℕ
written_over n xs d = bytes_from 0 xs ++ (replicate (n - end_over 0 xs) 255 ++ drop n d)

-- items one after another, from byte e on, within n bytes: what a writing loop asks
abbrev pub Spaced : ℕ → ℕ → List Item → Type 0
Spaced e n [] = Unit {0}
Spaced e n (x ∷ xs) = (e ≤ x.offset) × (stop x ≤ n) × Spaced (stop x) n xs
