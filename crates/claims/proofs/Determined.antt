-- Determined: cited. Each answer is told one-to-one, and a part of the window and what is lent are given by equations. Assumes nothing.
use mathlib.Core.Path.{sym, ◌∙◌}
use Rattle.units.proofs.Told as locating
use Rattle.layout_volume.proofs.Told as volume
use Rattle.layout_sector.proofs.Told as counter
use Rattle.read_entry.proofs.Told as entry
use Rattle.read_lookup.proofs.Told as lookup
use Rattle.read_path.proofs.Told as following
use Rattle.read_walk.proofs.Told as walking
use Rattle.read_place.proofs.Told as place
use Rattle.strict_rule.proofs.Told as checking
use Rattle.limits_rule.proofs.Told as loading
use Rattle.dirtab_add.proofs.Told as adding
use Rattle.dirtab.proofs.Told as serialising
use Rattle.dirtab_list.proofs.Told as whole
use Rattle.img_model.proofs.Told as planning
use Rattle.claims.specs.Determined.{Determined}

pub determined : Determined
determined = record {
  read_descriptor = λ s r q a b. volume.read_told_one r q (a ∙ sym b);
  write_descriptor = λ out d r q m n a b. (volume.write_told_one r q (a.0 ∙ sym b.0), a.1 ∙ sym b.1);
  read_date = λ stamp r q a b. volume.date_told_one r q (a ∙ sym b);
  take = λ next n r q a b. counter.told_one r q (a ∙ sym b);
  locate = λ t o r q a b. locating.told_one r q (a ∙ sym b);
  read_entry = λ w first t o r q a b. entry.told_one r q (a ∙ sym b);
  entry_name = λ w at n r q a b. (a.0 ∙ sym b.0, a.1 ∙ sym b.1);
  look_up = λ w first t name rule r q a b. lookup.told_one r q (a ∙ sym b);
  find_path = λ w first t path rule r q a b. following.told_one r q (a ∙ sym b);
  name = λ w first t o r q a b. (a.0 ∙ sym b.0, a.1 ∙ sym b.1);
  enter = λ w first t o r q a b. place.entered_one r q (a ∙ sym b);
  left = λ w first t o r q a b. place.linked_one r q (a ∙ sym b);
  right = λ w first t o r q a b. place.linked_one r q (a ∙ sym b);
  walk = λ w first t list scratch r q m n a b. (walking.told_one r q (a.0 ∙ sym b.0), λ k. ((a.1.0 ∙ sym b.1.0) k, (a.1.1 ∙ sym b.1.1) k));
  check_table = λ w first t list scratch r q m n a b. (checking.told_one r q (a.0 ∙ sym b.0), λ k. ((a.1.0 ∙ sym b.1.0) k, (a.1.1 ∙ sym b.1.1) k));
  load_limits = λ w first path time age r q a b. loading.told_one r q (a ∙ sym b);
  add = λ A e r q m n a b. (adding.told_one r q (a.0 ∙ sym b.0), a.1 ∙ sym b.1);
  serialise = λ A s m r q i j a b. (serialising.told_one r q (a.0 ∙ sym b.0), a.1 ∙ sym b.1);
  write_list = λ L s m r q i j a b. (whole.told_one r q (a.0 ∙ sym b.0), a.1 ∙ sym b.1);
  plan = λ A m r q i j a b. (planning.told_one r q (a.0 ∙ sym b.0), a.1 ∙ sym b.1);
}
