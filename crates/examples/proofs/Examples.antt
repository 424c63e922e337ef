-- Every row of the table holds: one theorem, computed from the definitions. Assumes nothing.
use lib.Dec.{T}
use lib.Ieee.{of_bits, to_bits, to_unsigned, lt, add, sub, neg, sum, round}
use Rattle.lists.specs.Lists.{joined, part, flat}
use Rattle.answers.specs.Outcome.{fitted}
use Rattle.bits.specs.Bits.{bits_of, number, stream, field_at}
use Rattle.bits.specs.Reading.{read_at}
use Rattle.colour.specs.Colour.{colour_of, colour_row}
use Rattle.records.specs.Layout.{widths_readable, layout_readable}
use Rattle.records.specs.Format as F
use Rattle.packing.specs.Packed.{octets, bytes, field, packed}
use Rattle.packing.specs.Writer.{thin, in_bytes, raw_write}
use Rattle.rules.specs.Triangles.{triangles_from, triangles, corners}
use Rattle.rules.specs.Lattice.{lattice}
use Rattle.rules.specs.Ported.{if_three, list_builder}
use Rattle.rules.specs.Meshes.{flags, vertex4, type4_mesh}
use Rattle.meshes.specs.Outcomes.{built}
use Rattle.examples.specs.Table.{table, all_same}

pub examples : T (all_same table)
unfolding table read_at field_at number stream bits_of widths_readable layout_readable colour_of colour_row of_bits to_bits to_unsigned lt add sub neg sum round joined part flat fitted octets bytes field packed thin in_bytes raw_write F.sum F.numbers F.whole F.next F.readings F.raw_reading triangles_from triangles corners lattice if_three list_builder flags vertex4 type4_mesh built
examples = tt
