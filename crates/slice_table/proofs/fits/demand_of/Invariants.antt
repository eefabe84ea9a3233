use Rattle.std.proofs.Common.{◌≡◌, ◌≤◌, ◌*◌, take}
use Rattle.std.specs.Prelude.{IfSome}
use Rattle.plant.specs.Provisioned.{sets_of_encoding}
use Rattle.slice_table.specs.Checks.{sids_needed, minislots_needed, provision_elements}
use Rattle.slice_table.proofs.fits.demand_of.Given as goal

abbrev pub invariant-loop-provision : goal.invariant-loop-provision
invariant-loop-provision l = record {
  sids : l.all.sids ≡ sids_needed l.consts (take l.provision-index l.provisions);
  minislots : l.all.minislots ≡ minislots_needed l.consts (take l.provision-index l.provisions);
  elements : l.all.elements ≡ provision_elements l.consts (take l.provision-index l.provisions);
  sids_most : l.all.sids ≤ l.provision-index;
  minislots_most : l.all.minislots ≤ 4294967295 * l.provision-index;
  elements_most : l.all.elements ≤ 127 * l.provision-index;
  known : IfSome l.before (λ p. l.sets ≡ sets_of_encoding l.consts p.now.encoding);
}
