-- WHICH LISTS AND WHICH IMAGES ARE REFUSED WHAT: each refusal exactly where its cause is there. Said of what
-- `write_list`, adding in turn and `serialise`, and `plan` are proved to answer. (agree_causes/specs has the words:
-- what a list, an image and enough memory are, and the causes.) Assumes nothing.
use Rattle.std.specs.Prelude.{ℕ, ◌≡◌, List}
use Rattle.units.specs.Told.{Told, gives, refuses}
use Rattle.table_model.specs.Table.{Placing}
use Rattle.dirtab_arena.specs.Arena.{Columns}
use Rattle.dirtab.specs.Serialise as serialise
use Rattle.dirtab_list.specs.Whole as whole
use Rattle.dirtab_list.specs.Whole.{Listing, given_in}
use Rattle.img_model.specs.Image as image
use Rattle.img_model.specs.Image.{Asked, request_in}
use Rattle.img_model.specs.Shares.{Request}
use Rattle.agree_list.specs.InTurn.{add_all, empty_in, then_answer}
use Rattle.agree_causes.specs.Lists.{FairList, Enough, EnoughInTurn, WriteOutcome}
use Rattle.agree_causes.specs.Plans.{FairImage, EnoughFor, PlanOutcome, GivenIn}

-- a list written at once, with sectors from s on: given, 5, 7 or 8, each with its cause
abbrev pub ListAnswered : Type 0
ListAnswered = (L : Listing) (s : ℕ) (m : whole.Lent) → FairList L → Enough L m
    → WriteOutcome L s (whole.answer_in L s m)

-- its entries added in turn to an arena that holds nothing, and the arena serialised: the same
abbrev pub TurnAnswered : Type 0
TurnAnswered = (L : Listing) (s : ℕ) (c : Columns) (m : serialise.Lent) → FairList L → EnoughInTurn L c m
    → WriteOutcome L s (then_answer (add_all (given_in L) L.count 0 (empty_in c L.bytes))
    (λ A. serialise.answer_in A s m))

-- a cause has one answer: no two of the four are there together
abbrev pub OneOutcome : Type 0
OneOutcome = (L : Listing) (s : ℕ) (x y : Told Placing) → WriteOutcome L s x → WriteOutcome L s y → x ≡ y

-- an image planned: given, 10, 7 or 8, each with its cause
abbrev pub PlanAnswered : Type 0
PlanAnswered = (A : Asked) (m : image.Lent) → FairImage (request_in A) → EnoughFor A m
    → PlanOutcome (request_in A) (image.answer_in A m)

abbrev pub OnePlan : Type 0
OnePlan = (R : Request) (x y : Told ℕ) → PlanOutcome R x → PlanOutcome R y → x ≡ y

-- planning never answers 5, whatever it is asked
abbrev pub PlanNever5 : Type 0
PlanNever5 = (A : Asked) (m : image.Lent) (vs : List ℕ) → image.answer_in A m ≡ refuses 5 vs → ⊥

-- where planning gives, there is a plan that is given, and the columns have it afterwards
abbrev pub PlanThere : Type 0
PlanThere = (A : Asked) (m : image.Lent) (f : ℕ) → image.answer_in A m ≡ gives f → GivenIn A m f
