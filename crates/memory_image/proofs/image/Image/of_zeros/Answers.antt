use Rattle.memory_image.proofs.Indexed.{zeros_are_image}
use Rattle.memory_image.proofs.image.Image.of_zeros.Goals as goal

pub invariant_of-result : goal.invariant_of-result
invariant_of-result c = zeros_are_image c.args.regions.now _ _ c.in_ok-pieces.ensures c.requires.fit c.requires.few c.in_ok-starts.ensures
