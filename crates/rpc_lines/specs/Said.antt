-- The content of a body's private parts; it serves the model of `Body` and private clauses only.
use Rattle.serde_json.specs.View.{view}
use Rattle.rpc_lines.specs.declared.reply.Said.{Said}
use Rattle.rpc_lines.specs.declared.reply.Said.TheVariants.{Result, Place, Error}
use Rattle.rpc_lines.specs.Reply.{Content, with_result, with_error, place_data}

abbrev pub said_content : Said → Content
said_content (Result value) = with_result (view value)
said_content (Place at) = with_result (place_data at)
said_content (Error code message detail) = with_error code message (view detail)
