-- A link, a header, an entry's bytes. Assumes nothing.
use Rattle.std.proofs.Common.{ℕ, ◌+◌, ◌*◌, ◌≤◌, ◌≡◌, sym, ◌∙◌, List, ◌++◌, length, get_or, eq-eqb, ne_eqb, arith}
use Rattle.layout_bytes.specs.inner.Bytes.{put_at}
use Rattle.layout_bytes.proofs.Put.{put_then}
use Rattle.name_role.proofs.Roles.{stored_is}
use Rattle.layout_node.specs.declared.Header.{Header}
use Rattle.layout_node.specs.Header.{header_bytes}
use Rattle.layout_node.proofs.RoundTrip.{header_length}
use Rattle.avl_model.specs.Names.{names_in, name_at}
use Rattle.avl_model.specs.inner.Names.{Inside}
use Rattle.table_model.specs.inner.Writing.{stored}
use Rattle.dirtab_place.proofs.Named.{name_long}
use Rattle.dirtab_write.specs.inner.Columns.{Cols, given_by, entry_by, link_by, header_by, item_by}

pub link_none : (p : List ℕ) (j x : ℕ) → j ≡ 65535 → x ≡ 0 → x ≡ link_by p j
unfolding link_by
link_none p j x e ex = rw (ex, eq-eqb j 65535 e)

pub link_some : (p : List ℕ) (j x : ℕ) → (j ≡ 65535 → ⊥) → x ≡ get_or p j 0 → x ≡ link_by p j
unfolding link_by
link_some p j x h ex = rw (ex, ne_eqb j 65535 h)

-- a header and then a name
pub entry_put : (d₀ d₁ d₂ : List ℕ) (at k : ℕ) (h : Header) (name : List ℕ) → at + 14 + length name ≤ length d₀ → k ≡ at + 14
    → d₁ ≡ put_at d₀ at (header_bytes h) → d₂ ≡ put_at d₁ k name → d₂ ≡ put_at d₀ at (header_bytes h ++ name)
entry_put d₀ d₁ d₂ at k h name f e p q =
    put_then d₀ d₁ d₂ at k (header_bytes h) name (omega (arith, header_length h)) (omega (arith, header_length h)) p q

-- the bytes that are copied for entry i, which are those that a table has
abbrev name_by : Cols → ℕ → List ℕ
name_by c i = name_at (names_in c.bytes c.start c.len) i

copied : (c : Cols) (i : ℕ) {name : List ℕ} → name ≡ name_by c i → name ≡ (entry_by c i).name
copied c i e = e ∙ sym (stored_is (name_by c i))

pub name-length : (c : Cols) (i : ℕ) → Inside (names_in c.bytes c.start c.len) i → length (entry_by c i).name ≡ get_or c.len i 0
name-length c i h = name_long c.bytes (given_by c i) h.fits

-- what is put is what is stored of the item
pub item_put : (d d₁ : List ℕ) (c : Cols) (i s n : ℕ) (h : Header) (name : List ℕ)
    → name ≡ name_by c i → n ≡ length name → h ≡ header_by c i s n
    → d₁ ≡ put_at d (4 * get_or c.place i 0) (header_bytes h ++ name) → d₁ ≡ put_at d (4 * get_or c.place i 0) (stored (item_by c s i))
item_put d d₁ c i s n h name en el eh q = q ∙ rw (eh, el, copied c i en)
