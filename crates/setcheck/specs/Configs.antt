-- To believe: a config as callers give it, as the config that it stands for.
use Rattle.sets.specs.Config.{Config, config}
use Rattle.setcheck.specs.declared.config.AtnConfig.{AtnConfig}

abbrev pub config_of : AtnConfig → Config
config_of x =
    config x.state x.alt.0 x.context.0 x.semantic_context.0 x.reaches_into_outer_context x.semantic_provenance_and_flags
