-- What streams in memory hold.
use Rattle.std.specs.Prelude.{Option, Some, None}
use Rattle.live_devices.specs.Streams.{Stream}
use Rattle.live_devices.specs.declared.stream.MemoryStream.{MemoryStream}
use Rattle.live_devices.specs.declared.stream.Script.{Script}

-- what is left of the stream, as a stream that comes in
abbrev pub stream_held : MemoryStream → Stream
stream_held s = record { left = s.rest.now; there = s.there.now; ends = s.ends }

-- a whole stream as it comes, before any read
abbrev pub script_held : Script → Stream
script_held s = record { left = s.octets; there = s.there; ends = s.ends }

-- the session that an accept finds, if any
abbrev pub session_held : Option Script → Option Stream
session_held None = None
session_held (Some s) = Some (script_held s)
