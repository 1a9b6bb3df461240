-- What an operation answers, in docs/SCOPE.md's words: what it gives, or the number of the refusal with the numbers
-- that the refusal carries. Each answer of the code is an enum; its `told` says which of these a case stands for,
-- and is one-to-one. Assumes nothing.
use Rattle.std.specs.Prelude.{ℕ, Bool, true, false, List}

pub data Told (A : Type 0) : Type 0 where
  gives : A → Told A
  refuses : ℕ → List ℕ → Told A

-- the number of a refusal; 0 for what is none
abbrev pub number_of : {A : Type 0} → Told A → ℕ
number_of (gives x) = 0
number_of (refuses k vs) = k

-- a case by a test
abbrev pub pick {ℓ} : {A : Type ℓ} → Bool → A → A → A
pick true a b = a
pick false a b = b
