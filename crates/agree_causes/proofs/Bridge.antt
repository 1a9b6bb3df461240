-- FROM THE CONTRACT OF PLANNING TO A PLAN: an answer that is given is the next free sector of a plan, whose sizes and sectors the columns have afterwards.
-- Assumes nothing.
use Prim.Native.Nat.{ℕ, ◌≤◌, min}
use native.Mathlib.Omega.{arith}
use mathlib.Core.Path.{◌≡◌, refl, sym, ap, subst, ◌∙◌}
use mathlib.Core.Bool.{Bool, true, false}
use mathlib.Core.List.{List, []}
use lib.Dec.{leb}
use lib.ListN.{length, take}
use lib.Seq.{length-take-le}
use borrow.Author.Tests.{leb-true}
use Rattle.units.specs.Told.{Told, gives, refuses, pick}
use Rattle.avl_arena.proofs.Tested.{and_l, and_r}
use Rattle.img_model.specs.Plan.{Plan, plan_of}
use Rattle.img_model.specs.Image.{Asked, Lent, by_directory, by_entry, has_room, request_in, image_of, answer_of, answer_in, column_after, lent_after}
use Rattle.agree_plan.proofs.NeverFive.{never_5}
use Rattle.agree_causes.specs.Plans.{GivenIn}

-- the least of some numbers is none the greater
two : (n a b : ℕ) → n ≤ min a b → (n ≤ a) × (n ≤ b)
two n a b h = (omega arith, omega arith)

module _ (A : Asked) (m : Lent) (room : has_room A m ≡ true) where
  directories : A.directories ≤ by_directory A m
  unfolding has_room
  directories = leb-true A.directories (by_directory A m) (and_l _ _ room)

  entries : A.entries ≤ by_entry A m
  unfolding has_room
  entries = leb-true A.entries (by_entry A m) (and_l _ _ (and_r (leb A.directories (by_directory A m)) _ room))

  in_from : A.directories ≤ length A.from
  in_from = (two _ _ _ directories).0

  in_tables : A.directories ≤ length m.tables
  in_tables = (two _ _ _ (two _ _ _ (two _ _ _ (two _ _ _ directories).1).1).1).0

  in_kind : A.entries ≤ length A.kind
  in_kind = (two _ _ _ (two _ _ _ (two _ _ _ entries).1).1).0

  in_sectors : A.entries ≤ length m.sectors
  in_sectors = (two _ _ _ (two _ _ _ (two _ _ _ (two _ _ _ (two _ _ _ entries).1).1).1).1).0

-- what is given of a plan
of_answer : (x : Told Plan) (f : ℕ) → answer_of x ≡ gives f → (p : Plan) × ((x ≡ gives p) × (p.taken.free ≡ f))
of_answer (gives p) f e = (p, (refl, cc))
of_answer (refuses k vs) f e = let z : ◌≡◌ {A = ℕ} 0 1 = cc in absurd (omega arith)

of_room : (b : Bool) (x : Told Plan) (p : Plan) → pick b x (refuses 6 []) ≡ gives p → (b ≡ true) × (x ≡ gives p)
of_room true x p e = (refl, e)
of_room false x p e = let z : ◌≡◌ {A = ℕ} 0 1 = cc in absurd (omega arith)

module _ (A : Asked) (m : Lent) (p : Plan) (e : image_of A m ≡ gives p) where
  parts : (has_room A m ≡ true) × (plan_of (request_in A) (length m.order) (take A.directories m.tables) (take A.entries m.sectors) ≡ gives p)
  unfolding image_of
  parts = of_room (has_room A m) _ p e

  given_in_lem : GivenIn A m p.taken.free
  unfolding lent_after
  given_in_lem = record {
    plan = p;
    planned = record {
      table_places = length-take-le A.directories m.tables (in_tables A m parts.0) ∙ sym (length-take-le A.directories A.from (in_from A m parts.0));
      entry_places = length-take-le A.entries m.sectors (in_sectors A m parts.0) ∙ sym (length-take-le A.entries A.kind (in_kind A m parts.0));
      given = parts.1;
    };
    free = refl;
    sizes = ap (λ (x : Told Plan). column_after x (λ q. q.sizes) A.directories m.sizes) e;
    tables = ap (λ (x : Told Plan). column_after x (λ q. q.taken.tables) A.directories m.tables) e;
    sectors = ap (λ (x : Told Plan). column_after x (λ q. q.taken.sectors) A.entries m.sectors) e;
  }

pub plan_given : (A : Asked) (m : Lent) (f : ℕ) → answer_in A m ≡ gives f → GivenIn A m f
plan_given A m f e =
    let w = of_answer (image_of A m) f e in
    subst (GivenIn A m) w.1.1 (given_in_lem A m w.0 w.1.0)

-- NEVER 5, whatever is asked
of_refusal_lem : (x : Told Plan) (k : ℕ) (vs : List ℕ) → answer_of x ≡ refuses k vs → x ≡ refuses k vs
of_refusal_lem (gives p) k vs e = let z : ◌≡◌ {A = ℕ} 0 1 = cc in absurd (omega arith)
of_refusal_lem (refuses j us) k vs e = (λ d. refuses (number d) (numbers d))
  where
    number : j ≡ k
    number = cc

    numbers : us ≡ vs
    numbers = cc

not_six : (b : Bool) (x : Told Plan) (vs : List ℕ) → pick b x (refuses 6 []) ≡ refuses 5 vs → x ≡ refuses 5 vs
not_six true x vs e = e
not_six false x vs e = let z : ◌≡◌ {A = ℕ} 6 5 = cc in absurd (omega arith)

pub plan_never_5 : (A : Asked) (m : Lent) (vs : List ℕ) → answer_in A m ≡ refuses 5 vs → ⊥
unfolding image_of
plan_never_5 A m vs e =
    never_5 (request_in A) (length m.order) (take A.directories m.tables) (take A.entries m.sectors) vs
    (not_six (has_room A m) _ vs (of_refusal_lem _ 5 vs e))
