-- One turn of the check's loop, over plain lists and numbers: each way out of it, and each way round. Assumes nothing.
use Prim.Native.Nat.{ℕ, suc, ◌+◌, ◌-◌, ◌*◌, ◌/◌, ◌%◌, ◌≤◌, ◌<◌}
use mathlib.Core.Path.{◌≡◌, refl, sym, ap, subst, ◌∙◌}
use mathlib.Core.Bool.{Bool, true, false}
use mathlib.Core.Logic.{⊎_elim}
use mathlib.Core.List.{List, [], ◌∷◌, ◌++◌, append-nil, map}
use mathlib.Core.Option.{Option, some}
use native.Mathlib.Omega.{arith}
use native.Mathlib.Nat.{sub-zero}
use native.Mathlib.Numerals.{add-one}
use borrow.Author.Tests.{eqb-false, eqb-true, leb-true, leb-false}
use lib.Dec.{leb, eqb}
use lib.ListN.{length, get_or, take, set, replicate, length-set}
use lib.Seq.{take-suc-set, length-take-le, get_or-set_same}
use Rattle.std.specs.Prelude.{Result, Ok, Err, Some, None, IsErr, IsErrAnd}
use Rattle.units.specs.Told.{Told, gives, refuses, pick}
use Rattle.units.specs.declared.Sector.{Sector}
use Rattle.units.specs.declared.Offset.{Offset}
use Rattle.units.specs.declared.Link.{Link}
use Rattle.units.specs.declared.Region.{Region}
use Rattle.layout_node.specs.declared.Header.{Header}
use Rattle.read_entry.specs.declared.ReadError.{ReadError}
use Rattle.read_entry.specs.declared.Placed.{Placed}
use Rattle.read_entry.specs.Entry.{read_at, number_in, offset_in}
use Rattle.read_entry.specs.Links.{is_in}
use Rattle.read_entry.specs.Entry as entry-said
use Rattle.read_entry.proofs.Located.{read_by_tests}
use Rattle.read_walk.specs.Walk.{before, counted}
use Rattle.read_walk.specs.inner.Run.{stack_of}
use Rattle.read_walk.proofs.Stack.{stack_pop}
use Rattle.read_walk.proofs.Steps.{before_none, before-before}
use Rattle.strict_map.specs.inner.Map.{Marked}
use Rattle.strict_map.proofs.Turn.{below_or_not}
use Rattle.strict_rule.specs.declared.CheckError.{CheckError}
use Rattle.strict_rule.specs.declared.CheckError.TheVariants as check_error
use Rattle.strict_rule.specs.Strict.{Visit, root, end_of, name_in, end_by, in_sector, apart, placed, ordered, verdict_at, strict_from, told}
use Rattle.strict_rule.specs.inner.Nearest.{entered_nearest}
use Rattle.strict.specs.inner.Run.{run_of, visit_of, visits_of, Entered, Mapped, Covers, Judged, Runs}
use Rattle.strict_rule.proofs.Clear.{both_first, both_second}
use Rattle.strict.proofs.Units.{marked_mapped, none_mapped}
use Rattle.strict_rule.proofs.Steps.{NoFault, verdict_good, check_none, check_nothing, check_refused, check_bad, check_entry_lem}

not_ok : false ≡ true → ⊥
not_ok e = let z : ◌≡◌ {A = ℕ} 0 1 = cc in omega arith

abbrev check_on : List ℕ → Sector → Region → ℕ → List ℕ → List Visit → Told (List ℕ)
check_on w first t = strict_from entered_nearest w (read_at w first t) t.size

-- the loop's invariant: x, the whole check, is what is listed and then the check of the stack; the map is that of what is listed
pub record State (w : List ℕ) (first : Sector) (t : Region) (x : Told (List ℕ)) (room places : ℕ) (list scratch units : List ℕ) (top n : ℕ) : Type 0 where
  pub to_do : x ≡ before (take n list) (check_on w first t (room - n) (take n list) (visits_of scratch top))
  pub mapped : Mapped (read_at w first t) (take n list) units
  pub covers : Covers t.size (length units)
  pub room_left : n ≤ room
  pub low : top ≤ n + 1
  pub list_kept : length list ≡ room
  pub scratch_kept : length scratch ≡ places
  pub fits : room < places

-- a way out with a refusal
refused : (x : Told (List ℕ)) (a : CheckError) (list : List ℕ) (k : ℕ) (vs : List ℕ) → x ≡ refuses k vs → told (Err a) ≡ refuses k vs → Runs x (Err a) list
refused x a list k vs e ta = record { is = ta ∙ sym (ap counted e); listed = rw e; within = omega arith }

-- what is given is not refused
read_by : (size o : ℕ) (y : Told (Option Placed)) (z : Option Placed) (b : Bool) → leb size o ≡ b → pick b (refuses 23 (o ∷ [])) y ≡ gives z → o < size
read_by size o y z true e q = let g : ◌≡◌ {A = ℕ} 0 1 = cc in absurd (omega arith)
read_by size o y z false e q = leb-false size o e

-- 262,144 is a sector line
no_line : (o e : ℕ) → o < 262144 → 262144 < e → o / 2048 ≡ (e - 1) / 2048 → ⊥
no_line o e a b s =
    let c : o / 2048 < 128 = omega arith in
    let d : 128 ≤ (e - 1) / 2048 = omega arith in
    omega arith

-- so an entry that crosses no sector line does not start at unit 65,535
low_unit : (size k : ℕ) (h : Header) → in_sector size (4 * k) (end_of h (4 * k)) ≡ true → k < 65536 → k < 65535
low_unit size k h e l =
    let s : (4 * k) / 2048 ≡ (end_of h (4 * k) - 1) / 2048 = eqb-true _ _ (both_second (leb (end_of h (4 * k)) size) (eqb ((4 * k) / 2048) ((end_of h (4 * k) - 1) / 2048)) e) in
    ⊎_elim (λ (a : k < 65535). a) (λ (a : 65535 ≤ k). absurd (no_line (4 * k) (end_of h (4 * k)) (omega arith) (omega arith) s)) (below_or_not k 65535)

module _ (w : List ℕ) (first : Sector) (t : Region) (x : Told (List ℕ)) (room places : ℕ) (list scratch units : List ℕ) (top n : ℕ)
    (s : State w first t x room places list scratch units top n) where
  pub done : top ≤ 0 → Runs x (Ok n) list
  unfolding stack_of
  done h =
      let z : top ≡ 0 = omega arith in
      let e : x ≡ gives (take n list) = s.to_do ∙ rw (z, check_none entered_nearest w (read_at w first t) t.size (take n list) (room - n), append-nil) in
      record {
        is = sym (ap counted e ∙ ap gives (length-take-le n list (omega (arith, s.room_left, s.list_kept))));
        listed = rw e;
        within = omega (arith, s.room_left, s.list_kept);
      }

  module _ (more : 0 < top) where
    abbrev c : ℕ
    c = get_or scratch (top - 1) 0

    -- the top of the stack
    popped : x ≡ before (take n list) (check_on w first t (room - n) (take n list) (visit_of c ∷ visits_of scratch (top - 1)))
    popped = s.to_do ∙ ap (λ (st : List ℕ). before (take n list) (check_on w first t (room - n) (take n list) (map visit_of st))) (stack_pop scratch top more)

    -- what is read there, as the code has it, at the offset p of link l: r is what is told of it
    module _ (l : Link) (l-is : l.0 ≡ c % 65536) (p : Offset) (p-is : p.0 ≡ 4 * l.0) where
      found : {r : Told (Option Placed)} → r ≡ read_at w first t p.0 → read_at w first t (4 * (c % 65536)) ≡ r
      found e = sym (e ∙ ap (read_at w first t) (p-is ∙ ap (λ (k : ℕ). 4 * k) l-is))

      -- a refusal ends the check
      pub unread : (e : ReadError) → entry-said.told (Err e) ≡ read_at w first t p.0 → (a : Result ℕ CheckError)
          → IsErr a × IsErrAnd a (λ (b : CheckError). b ≡ check_error.Read e) → Runs x a list
      unread e r (Ok n) h = absurd (not_ok h.0)
      unread e r (Err a) h =
          refused x a list (number_in e) ((offset_in e).0 ∷ [])
          (popped ∙ rw (check_refused entered_nearest w (read_at w first t) t.size (take n list) (visit_of c) (visits_of scratch (top - 1)) (room - n) (number_in e) ((offset_in e).0 ∷ []) (found r)))
          (rw h.1)

      pub nothing : entry-said.told (Ok None) ≡ read_at w first t p.0 → (u : ℕ) → u ≡ top - 1 → State w first t x room places list scratch units u n
      nothing r u d = record {
        to_do = rw d (popped ∙ ap (before (take n list)) (check_nothing entered_nearest w (read_at w first t) t.size (take n list) (visit_of c) (visits_of scratch (top - 1)) (room - n) (found r)));
        mapped = s.mapped;
        covers = s.covers;
        room_left = s.room_left;
        low = omega (arith, s.low);
        list_kept = s.list_kept;
        scratch_kept = s.scratch_kept;
        fits = s.fits;
      }

      -- an entry e₀ is read there
      module _ (e₀ : Placed) (r : entry-said.told (Ok (Some e₀)) ≡ read_at w first t p.0) where
        entry_at : read_at w first t (4 * (c % 65536)) ≡ gives (some e₀)
        entry_at = found r

        -- inside the table
        in_table : 4 * (c % 65536) < t.size
        in_table = read_by t.size (4 * (c % 65536)) _ _ (leb t.size (4 * (c % 65536))) refl (sym (read_by_tests w first t (4 * (c % 65536))) ∙ entry_at)

        -- so the map has what judging it asks for
        pub judgeable : Covers t.size (length units) × (c % 65536 < length units)
        judgeable = (s.covers, s.covers.unit (c % 65536) (omega arith) in_table)

        -- a verdict v on the entry, in the code's list
        abbrev Judging : Result (Unit {0}) CheckError → Type 0
        Judging v = (seen : List ℕ) → Mapped (read_at w first t) seen units
            → Judged v (verdict_at w (read_at w first t) t.size seen (eqb (length list - n) 0) (visit_of c) e₀)

        verdict_here : (v : Result (Unit {0}) CheckError) → Judging v → Judged v (verdict_at w (read_at w first t) t.size (take n list) (eqb (room - n) 0) (visit_of c) e₀)
        verdict_here v judging = subst (λ (m : ℕ). Judged v (verdict_at w (read_at w first t) t.size (take n list) (eqb (m - n) 0) (visit_of c) e₀)) s.list_kept (judging (take n list) s.mapped)

        -- a fault ends the check
        pub faulty : (f : CheckError) → Judging (Err f) → (a : Result ℕ CheckError) → IsErr a × IsErrAnd a (λ (b : CheckError). b ≡ f) → Runs x a list
        faulty f judging (Ok n) h = absurd (not_ok h.0)
        faulty f judging (Err a) h =
            let j : Judged (Err f) (verdict_at w (read_at w first t) t.size (take n list) (eqb (room - n) 0) (visit_of c) e₀) = verdict_here (Err f) judging in
            refused x a list j.0 j.1
            (popped ∙ ap (before (take n list)) (check_bad entered_nearest w (read_at w first t) t.size (take n list) (visit_of c) (visits_of scratch (top - 1)) e₀ entry_at (room - n) j.0 j.1 j.2))
            (rw h.1 j.3)

        module _ (u₀ : Unit {0}) (judging : Judging (Ok u₀)) where
          good_here : verdict_at w (read_at w first t) t.size (take n list) (eqb (room - n) 0) (visit_of c) e₀ ≡ gives tt
          good_here = verdict_here (Ok u₀) judging

          fine : NoFault (is_in (4 * (c % 65536)) (take n list)) (eqb (room - n) 0) (placed (read_at w first t) t.size (4 * (c % 65536)) (end_of e₀.header (4 * (c % 65536))) (take n list))
              (ordered w (read_at w first t) (visit_of c) (name_in w e₀))
          fine = verdict_good w (read_at w first t) t.size (take n list) (eqb (room - n) 0) (visit_of c) e₀ good_here

          pub has_place : n < length list
          has_place = let z : (room - n ≡ 0 → ⊥) = eqb-false _ _ fine.room in omega (arith, s.list_kept, s.room_left)

          well : in_sector t.size (4 * (c % 65536)) (end_of e₀.header (4 * (c % 65536))) ≡ true
          unfolding placed
          well = both_first (in_sector t.size (4 * (c % 65536)) (end_of e₀.header (4 * (c % 65536)))) (apart (read_at w first t) (4 * (c % 65536)) (end_of e₀.header (4 * (c % 65536))) (take n list)) fine.in_place

          alone : apart (read_at w first t) (4 * (c % 65536)) (end_of e₀.header (4 * (c % 65536))) (take n list) ≡ true
          unfolding placed
          alone = both_second (in_sector t.size (4 * (c % 65536)) (end_of e₀.header (4 * (c % 65536)))) (apart (read_at w first t) (4 * (c % 65536)) (end_of e₀.header (4 * (c % 65536))) (take n list)) fine.in_place

          -- its end is on the map
          pub on_units : end_of e₀.header (4 * l.0) / 4 ≤ length units
          on_units =
              let e : ℕ = end_of e₀.header (4 * (c % 65536)) in
              let inside : e ≤ t.size = leb-true _ _ (both_first (leb e t.size) (eqb ((4 * (c % 65536)) / 2048) ((e - 1) / 2048)) well) in
              let line : (4 * (c % 65536)) / 2048 ≡ (e - 1) / 2048 = eqb-true _ _ (both_second (leb e t.size) (eqb ((4 * (c % 65536)) / 2048) ((e - 1) / 2048)) well) in
              let low : e ≤ 262416 = ⊎_elim (λ (a : 262144 < e). absurd (no_line (4 * (c % 65536)) e (omega arith) a line)) (λ (a : e ≤ 262144). omega arith) (below_or_not 262144 e) in
              subst (λ (j : ℕ). end_of e₀.header (4 * j) / 4 ≤ length units) (sym l-is) (s.covers.end e low inside)

          pub can_push : (u : ℕ) → u ≡ top - 1 → (u + 1 < length scratch) × (c % 65536 < 65535)
          can_push u d =
              let g : n < length list = has_place in
              (omega (arith, s.low, s.list_kept, s.scratch_kept, s.fits), low_unit t.size (c % 65536) e₀.header well (omega arith))

          -- the measure falls
          pub falls : (u : ℕ) → u ≡ top - 1 → (s₂ : List ℕ) (t₂ : ℕ) → Entered (visit_of c) e₀.header scratch u s₂ t₂ → (m : ℕ) → m ≡ n + 1 → 2 * (room - m) + t₂ < 2 * (room - n) + top
          falls u is-u s₂ t₂ entered m d = let g : n < length list = has_place in omega (arith, s.list_kept, entered.height)

          after_one : x ≡ before (take (n + 1) (set list n (4 * (c % 65536)))) (check_on w first t (room - (n + 1)) (take (n + 1) (set list n (4 * (c % 65536))))
              (entered_nearest (visit_of c) e₀ (visits_of scratch (top - 1))))
          after_one =
              let o : ℕ = 4 * (c % 65536) in
              let st : List Visit = entered_nearest (visit_of c) e₀ (visits_of scratch (top - 1)) in
              let g : n < length list = has_place in
              let z : room - n ≡ suc (room - (n + 1)) = omega (arith, s.list_kept) in
              popped
              ∙ ap (λ (m : ℕ). before (take n list) (check_on w first t m (take n list) (visit_of c ∷ visits_of scratch (top - 1)))) z
              ∙ ap (before (take n list)) (check_entry_lem entered_nearest w (read_at w first t) t.size (take n list) (visit_of c) (visits_of scratch (top - 1)) e₀ entry_at (room - (n + 1))
              (ap (λ (b : Bool). verdict_at w (read_at w first t) t.size (take n list) b (visit_of c) e₀) (sym fine.room) ∙ good_here))
              ∙ before-before (take n list) (o ∷ []) (check_on w first t (room - (n + 1)) (take n list ++ (o ∷ [])) st)
              ∙ ap (λ (ys : List ℕ). before ys (check_on w first t (room - (n + 1)) ys st)) (sym (ap (λ (m : ℕ). take m (set list n o)) (add-one n) ∙ take-suc-set list n o g))

          -- the turn ends with the entry listed, marked, and its children on the stack
          pub entry_done : (num : ℕ) → num ≡ p.0 → (units₂ : List ℕ) → Marked units l.0 (end_of e₀.header (4 * l.0) / 4) units₂ × (end_of e₀.header (4 * l.0) / 4 ≤ length units) →
              (u : ℕ) → u ≡ top - 1 → (s₂ : List ℕ) (t₂ : ℕ) → Entered (visit_of c) e₀.header scratch u s₂ t₂ → (m : ℕ) → m ≡ n + 1 →
              State w first t x room places (set list n num) s₂ units₂ t₂ m
          entry_done num is-num units₂ marks u is-u s₂ t₂ entered m d =
              let k : ℕ = c % 65536 in
              let o : ℕ = 4 * k in
              let g : n < length list = has_place in
              let same : num ≡ o = is-num ∙ p-is ∙ ap (λ (j : ℕ). 4 * j) l-is in
              let list_now : take m (set list n num) ≡ take n list ++ (o ∷ []) =
              rw (d, same, add-one n) (take-suc-set list n o g) in
              let ends : end_by (read_at w first t o) o ≡ 4 * (end_of e₀.header o / 4) = ap (λ (y : Told (Option Placed)). end_by y o) entry_at ∙ omega arith in
              let alone_now : apart (read_at w first t) o (4 * (end_of e₀.header o / 4)) (take n list) ≡ true =
              ap (λ (y : ℕ). apart (read_at w first t) o y (take n list)) (omega arith) ∙ alone in
              record {
                to_do = rw (d, same) (after_one ∙ ap (λ (st : List Visit). before (take (n + 1) (set list n o)) (check_on w first t (room - (n + 1)) (take (n + 1) (set list n o)) st))
                    (sym (entered.stack ∙ ap (λ (j : ℕ). entered_nearest (visit_of c) e₀ (visits_of scratch j)) is-u)));
                mapped = rw list_now (marked_mapped (read_at w first t) (take n list) units s.mapped k (end_of e₀.header o / 4)
                    (subst (λ (j : ℕ). end_of e₀.header (4 * j) / 4 ≤ length units) l-is marks.1) (omega arith) ends alone_now units₂
                    (subst (λ (j : ℕ). Marked units j (end_of e₀.header (4 * j) / 4) units₂) l-is marks.0));
                covers = subst (λ (g : ℕ). Covers t.size g) (sym marks.0.kept) s.covers;
                room_left = omega (arith, s.list_kept);
                low = omega (arith, s.low, entered.height);
                list_kept = length-set list n num ∙ s.list_kept;
                scratch_kept = entered.kept ∙ s.scratch_kept;
                fits = s.fits;
              }

-- where the loop begins: the root's number in the first place of the scratch s₀, and a map of zeros
pub starts : (w : List ℕ) (first : Sector) (t : Region) (list s₀ : List ℕ) → length list < length s₀ → (v : ℕ) → visit_of v ≡ root
    → (units : List ℕ) → units ≡ replicate (length units) 0 → Covers t.size (length units) →
    State w first t (run_of w first t (length list)) (length list) (length (set s₀ 0 v)) list (set s₀ 0 v) units 1 0
unfolding stack_of
starts w first t list s₀ h v is-root units e covers = record {
  to_do =
      rw (sub-zero, get_or-set_same s₀ 0 v 0 (omega arith))
      (sym (before_none (run_of w first t (length list))) ∙ ap (λ (r : Visit). before [] (check_on w first t (length list) [] (r ∷ []))) (sym is-root));
  mapped = subst (λ (m : List ℕ). Mapped (read_at w first t) [] m) (sym e) (none_mapped (read_at w first t) (length units));
  covers = covers;
  room_left = omega arith;
  low = omega arith;
  list_kept = refl;
  scratch_kept = refl;
  fits = rw length-set h;
}

-- the scratch is as long as it came
pub same_scratch : (w : List ℕ) (first : Sector) (t : Region) (x : Told (List ℕ)) (room v : ℕ) (list scratch units s₀ : List ℕ) (top n : ℕ) →
    State w first t x room (length (set s₀ 0 v)) list scratch units top n → length scratch ≡ length s₀
same_scratch w first t x room v list scratch units s₀ top n s = s.scratch_kept ∙ length-set s₀ 0 v
