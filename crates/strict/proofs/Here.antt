-- The name of the entry at a place of the window, without its header: what `name_by` says of what is read there. Assumes nothing.
use Prim.Native.Nat.{ℕ, ◌+◌, ◌-◌, ◌*◌, ◌≤◌, ◌<◌}
use mathlib.Core.Path.{◌≡◌, refl, sym, ◌∙◌}
use mathlib.Core.Bool.{Bool, true, false}
use mathlib.Core.Logic.{◌⊎◌, inl, inr}
use mathlib.Core.List.{List, []}
use native.Mathlib.Nat.{add-sub_cancel_left}
use native.Mathlib.Decide.{ℕ_discrete}
use native.Mathlib.Omega.{arith}
use borrow.Author.Tests.{lt-ltb, le-ltb, lt-leb, le-leb}
use lib.ListN.{length, get_or, take, drop, length-drop}
use lib.Seq.{get_or-take, get_or-drop, length-take-le}
use Rattle.units.specs.declared.Sector.{Sector}
use Rattle.units.specs.declared.Offset.{Offset}
use Rattle.units.specs.declared.Region.{Region}
use Rattle.layout_node.specs.Header.{header_of, is_blank}
use Rattle.layout_node.proofs.Blank.{neither}
use Rattle.read_entry.specs.Entry.{name_of, read_here, read_at}
use Rattle.read_entry.proofs.Located.{byte_of, read_by_tests}
use Rattle.strict_rule.specs.Strict.{name_by}
use Rattle.strict.specs.inner.Run.{Begins}

-- at place p of the window
module _ (w : List ℕ) (p : ℕ) where
  abbrev h : List ℕ
  h = take 14 (drop p w)

  -- the bytes that a name has there, whatever the offset is that a refusal would tell
  abbrev pub Here : List ℕ → Type 0
  Here name = (o : ℕ) → name ≡ name_by w (read_here w p o)

  pub no_header : length w < p + 14 → Here []
  unfolding read_here
  no_header short o = rw (lt-ltb _ _ short)

  pub no_entry : p + 14 ≤ length w → (b : Bool) → b ≡ is_blank (take (p + 14 - p) (drop p w)) → b ≡ true → Here []
  unfolding read_here
  no_entry held b blank e o = rw (le-ltb _ _ held, ← (rw (add-sub_cancel_left p 14) at blank), e)

  -- fourteen bytes are there; n is the last of them
  module _ (held : p + 14 ≤ length w) (n : ℕ) (is-n : n ≡ get_or w (p + 13) 0) where
    last : get_or h 13 0 ≡ n
    last = get_or-take 14 (drop p w) 13 0 (omega arith) ∙ get_or-drop p w 13 0 ∙ sym is-n

    long : length h ≡ 14
    long = length-take-le 14 (drop p w) (simp length-drop (omega arith))

    -- an entry, or nothing and no name
    abbrev Tells : Type 0
    Tells = (is_blank h ≡ false) ⊎ (n ≡ 0)

    pub is_told : (get_or w (p + 13) 0 ≡ 255 → ⊥) → Tells
    is_told not_255 = elim (ℕ_discrete n 0) [
      | yes z ↦ inr z
      | no z ↦ inl (sym (neither h long (λ e. not_255 (sym is-n ∙ sym last ∙ e)) (λ e. z (sym last ∙ e))))
    ]

    pub is_entry_lem : (b : Bool) → b ≡ is_blank (take (p + 14 - p) (drop p w)) → b ≡ false → Tells
    is_entry_lem b blank e = inl (sym (rw (add-sub_cancel_left p 14) at blank) ∙ e)

    named : (header_of h).name_len ≡ n
    unfolding header_of
    named = last

    pub name_cut : Tells → length w < p + 14 + n → Here []
    unfolding read_here
    name_cut (inl entry) short o = rw (le-ltb _ _ held, entry, named, lt-ltb _ _ short)
    name_cut (inr z) short o = absurd (omega arith)

    -- a name that is whole: of an entry, and of what is no entry or has none
    abbrev bytes : List ℕ
    bytes = take (p + 14 + n - (p + 14)) (drop (p + 14) w)

    of_entry : p + 14 + n ≤ length w → is_blank h ≡ false → Here bytes
    unfolding read_here name_of
    of_entry whole entry o = rw (le-ltb _ _ held, entry, named, le-ltb _ _ whole, add-sub_cancel_left (p + 14) n)

    of_none : n ≡ 0 → is_blank h ≡ true → Here bytes
    unfolding read_here
    of_none z blank o = rw (le-ltb _ _ held, blank, add-sub_cancel_left (p + 14) n, z)

    pub name_whole : Tells → p + 14 + n ≤ length w → Here bytes
    name_whole (inl entry) whole = of_entry whole entry
    name_whole (inr z) whole = by (is_blank h) refl
      where
        by : (b : Bool) → is_blank h ≡ b → Here bytes
        by true e = of_none z e
        by false e = of_entry whole e

-- at an offset of a table that starts where the window does, n its number
module _ (w : List ℕ) (first : Sector) (t : Region) (b : Begins first t) (o : Offset) (n : ℕ) (is-n : n ≡ o.0) where
  pub name_outside : t.size ≤ n → [] ≡ name_by w (read_at w first t o.0)
  name_outside h = rw (read_by_tests w first t o.0, le-leb t.size o.0 (omega arith))

  pub name_inside : (name : List ℕ) → n < t.size → Here w n name → name ≡ name_by w (read_at w first t o.0)
  name_inside name h e =
      let at : byte_of t o.0 - 2048 * first.0 ≡ n = omega (arith, b.window, b.table) in
      e o.0
      ∙ sym (rw (read_by_tests w first t o.0, lt-leb t.size o.0 (omega arith), le-ltb (byte_of t o.0) (2048 * first.0) (omega (arith, b.window)), at))
