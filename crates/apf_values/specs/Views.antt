-- The value that a node is.
use Rattle.serde_json.specs.Data.{Data}
use Rattle.apf_values.specs.Held.{held_data}
use Rattle.apf_values.specs.declared.node.Node.{Node}

abbrev pub data_of : Node → Data
data_of node = held_data node.held
