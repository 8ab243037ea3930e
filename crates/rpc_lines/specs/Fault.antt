-- What each fault of `read_request` says of the line.
use Rattle.std.specs.Prelude.{◌≡◌}
use Rattle.rpc_lines.specs.declared.request.RpcFault.{RpcFault}
use Rattle.rpc_lines.specs.declared.request.RpcFault.TheVariants.{NotJson, NotRequest, NoMemory}
use Rattle.rpc_lines.specs.Request.{LineReading, not_json, not_request}

-- `NoMemory` may come for any line.
abbrev pub IsRequestFault : RpcFault → LineReading → Type 0
IsRequestFault NotJson reading = reading ≡ not_json
IsRequestFault (NotRequest id) reading = reading ≡ not_request id
IsRequestFault NoMemory reading = Unit {0}
