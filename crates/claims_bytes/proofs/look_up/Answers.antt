-- The law of 25, at what `look_up` answers. Assumes nothing.
use Rattle.claims.proofs.Reading.{looped_exactly}
use Rattle.claims_bytes.proofs.look_up.Goals as goal

pub returns : goal.returns
returns c = λ absent e. search looped_exactly
