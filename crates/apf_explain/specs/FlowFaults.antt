-- What is wrong with the flow of a request.
use Rattle.std.specs.Prelude.{if◌then◌else◌, Option, Some, None}
use Rattle.serde_json.specs.Data.{Data}
use Rattle.apf_explain.specs.declared.flow.FlowFault.{FlowFault}
use Rattle.apf_explain.specs.declared.flow.FlowFault.TheVariants.{Missing, HashBesideSchema, HashBesideDistinguisher, HashBesideBoth, SchemaAlone, DistinguisherAlone, BadValue}
use Rattle.apf_explain.specs.declared.members.RequestKey.{RequestKey}
use Rattle.apf_explain.specs.declared.members.RequestKey.TheVariants.{Schema, Distinguisher, Hash}
use Rattle.apf_explain.specs.Wanted.{is_wanted, request_wanted}

-- a bad value at this key, unless the value is one that may stand there
abbrev pub unless_wanted : RequestKey → Data → Option FlowFault → Option FlowFault
unless_wanted key d next = if is_wanted (request_wanted 0 key) d then next else Some (BadValue key)

-- what is wrong with a flow of this hash, schema and distinguisher, if something is
abbrev pub flow_fault_of : Option Data → Option Data → Option Data → Option FlowFault
flow_fault_of None None None = Some Missing
flow_fault_of (Some hash) (Some schema) (Some distinguisher) = Some HashBesideBoth
flow_fault_of (Some hash) (Some schema) None = Some HashBesideSchema
flow_fault_of (Some hash) None (Some distinguisher) = Some HashBesideDistinguisher
flow_fault_of None (Some schema) None = Some SchemaAlone
flow_fault_of None None (Some distinguisher) = Some DistinguisherAlone
flow_fault_of (Some hash) None None = unless_wanted Hash hash None
flow_fault_of None (Some schema) (Some distinguisher) = unless_wanted Schema schema (unless_wanted Distinguisher distinguisher None)
