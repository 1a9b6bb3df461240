-- The link of a header on a side.
use Rattle.units.specs.declared.Link.{Link}
use Rattle.layout_node.specs.declared.Header.{Header}
use Rattle.read_place.specs.declared.Side.{Side}
use Rattle.read_place.specs.declared.Side.TheVariants.{Left, Right}

abbrev pub link_on : Side → Header → Link
link_on Left h = h.left
link_on Right h = h.right
